-- The margins of files are as claimed. Assumes nothing.
use Rattle.std.specs.Prelude.{◌≡◌, refl, Bool, true, false, []}
use Rattle.std.proofs.Math.Path.{ap}
use Rattle.std.proofs.Common.{◌∙◌}
use Rattle.basics.specs.Lists.{all}
use Rattle.basics.specs.Refusals.{accepted, refused}
use Rattle.basics.specs.TestLaws.{is_true, test_case, is_false}
use Rattle.network.specs.Threshold.{Net}
use Rattle.network.specs.Limits.{keeps}
use Rattle.pmn_format.specs.Format.{Read, done, check, file_bytes}
use Rattle.pmn_format.proofs.WriteReadLaws.{file_tested}
use Rattle.pmn_opening.specs.Files.{as_answer, read_net}
use Rattle.network_claims.specs.Margins.{AllClear, OtherLimits}
use Rattle.network_claims.proofs.MarginLaws.{gates_within, outputs_within, keeps_exact}
use Rattle.pmn_claims.specs.Margins.{MarginsOfFile}

module _ (N : Net) (o : OtherLimits N) where
  abbrev keep : Bool
  keep = all (keeps N.board) N.gates

  tested : read_net (file_bytes N) ≡ as_answer (check keep 24 (done N []))
  unfolding read_net
  tested = ap as_answer (file_tested N (record {
    board_ok_lem = o.board_ok_lem;
    few_inputs = o.few_inputs;
    few_gates = o.few_gates;
    few_outputs = o.few_outputs;
    all_gates = gates_within N o;
    all_outputs = outputs_within N o;
  }))

  kept : AllClear N → read_net (file_bytes N) ≡ accepted N
  unfolding as_answer
  kept c = tested ∙ ap (λ (b : Bool). as_answer (check b 24 (done N []))) (is_true keep ((keeps_exact N o).1 c))

  broken : (AllClear N → ⊥) → read_net (file_bytes N) ≡ refused 24
  unfolding as_answer
  broken c = tested ∙ test_case keep
      (λ t. absurd (c ((keeps_exact N o).0 t)))
      (λ f. ap (λ (b : Bool). as_answer (check b 24 (done N []))) (is_false keep f))

pub margins_of_file : (N : Net) → MarginsOfFile N
margins_of_file N = record { kept = kept N; broken = broken N }
