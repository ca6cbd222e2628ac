-- The converter is as claimed. Assumes nothing.
use Rattle.std.specs.Prelude.{◌≡◌, refl, Bool, true, false, ◌&&◌, ◌||◌, ◌≢◌, ◌⊎◌, ℕ, ◌+◌, ◌≤◌, ◌<◌, T, leb, length, take, drop}
use Rattle.std.proofs.Math.Path.{sym, ap, subst}
use Rattle.std.proofs.Common.{◌∙◌, inl, inr, arith, eq-eqb, le→leb}
use Rattle.std.proofs.Math.Bool.{cond}
use mathlib.Core.List.{List, [], ◌∷◌, ◌++◌}
use Rattle.std.proofs.lemmas.Bool.{lt-leb}
use Rattle.std.proofs.Math.Dec.{eqb, eqb→eq}
use Rattle.basics.specs.Refusals.{Answer, accepted, refused, ◌else◌, checks, bind}
use Rattle.basics.specs.RefusalLaws.{accepted_inj, checks_accepted, checks_first, checks_next, passed_checks}
use Rattle.basics.specs.TestLaws.{is_true, is_false, T_is, T_and, and_T, T_or, or_T, or_case, test_case}
use Rattle.network.specs.Threshold.{Net}
use Rattle.network.specs.Sound.{Sound}
use Rattle.network.specs.Record.{net_of, layout}
use Rattle.network.specs.RecordLaws.{net_of_layout}
use Rattle.network.specs.declared.Board.{Board}
use Rattle.pmn_format.specs.Format.{Bytes, gates_bytes, counted_header, file_bytes}
use Rattle.pmn_format.proofs.BoardLaws.{board_kinds}
use Rattle.pmn_format.proofs.WriteReadLaws.{file_read}
use Rattle.pmn_reader.specs.Answers.{as_loaded, loaded}
use Rattle.pmn_reader.specs.OpenLaws.{FileAccepted, read_opened, loaded_net, opened_sound, opened_bytes}
use Rattle.pmn_reader.specs.declared.Loaded.{Loaded}
use Rattle.pmn_opening.specs.Files.{read_net}
use Rattle.pmn_versions.specs.Versions.{convertible, other_version, converted}
use Rattle.pmn_versions.proofs.VersionLaws.{converted_sound}
use Rattle.pmn_converter.specs.Conversion.{conversion, conversion_of}
use Rattle.guarantees.specs.Files.{Accepted}
use Rattle.pmn_claims.specs.Reads.{net_in}
use Rattle.pmn_claims.proofs.ReadLaws.{read_sound, read_bytes, written_read, read_alike}
use Rattle.pmn_claims.specs.Converter.{Plain, OtherVersion, Converts, ConverterClaim}

-- ---- the bytes after the version and the margins
abbrev body : Net → List ℕ
body N = N.inputs ∷ length N.gates ∷ length N.outputs ∷ (gates_bytes N.gates ++ N.outputs)

first_bytes : (N : Net) → N.board.version ≡ 1 → file_bytes N ≡ 80 ∷ 77 ∷ 78 ∷ 1 ∷ 0 ∷ body N
first_bytes N e = rw e

second_bytes : (N : Net) → N.board.version ≡ 2 → file_bytes N ≡ 80 ∷ 77 ∷ 78 ∷ 2 ∷ 0 ∷ N.board.on ∷ N.board.off ∷ body N
second_bytes N e = rw e

module _ (N : Net) (s : Sound N) (room : ℕ) where
  abbrev b : Board
  b = N.board

  abbrev M : Net
  M = converted N

  to_second : b.version ≡ 1 → file_bytes M ≡ 80 ∷ 77 ∷ 78 ∷ 2 ∷ 0 ∷ b.on ∷ b.off ∷ body N
  unfolding converted other_version
  to_second e = second_bytes M (rw e)

  to_first : b.version ≡ 2 → file_bytes M ≡ 80 ∷ 77 ∷ 78 ∷ 1 ∷ 0 ∷ body N
  unfolding converted other_version
  to_first e = first_bytes M (rw e)

  can_first : b.version ≡ 1 → T (convertible b)
  unfolding convertible
  can_first e = T_or (eqb b.version 1) (eqb b.on 0 && eqb b.off 1) (T_is _ (eq-eqb b.version 1 e))

  can_plain : Plain b → T (convertible b)
  unfolding convertible
  can_plain p = or_T (eqb b.version 1) (eqb b.on 0 && eqb b.off 1)
      (and_T (eqb b.on 0) (eqb b.off 1) (T_is (eqb b.on 0) (eq-eqb b.on 0 p.0)) (T_is (eqb b.off 1) (eq-eqb b.off 1 p.1)))

  plain_first : b.version ≡ 1 → Plain b
  plain_first e = board_kinds b s.board_ok_lem (λ v f g. (f, g)) (λ v f g. absurd (omega arith))

  plain_can : T (convertible b) → Plain b
  unfolding convertible
  plain_can c = or_case (eqb b.version 1) (eqb b.on 0 && eqb b.off 1) c
      (λ h. plain_first (eqb→eq b.version 1 h))
      (λ h. let m = T_and (eqb b.on 0) (eqb b.off 1) h in (eqb→eq b.on 0 m.0, eqb→eq b.off 1 m.1))

  -- ---- by the tests
  given : T (convertible b) → length (file_bytes M) ≤ room → conversion N room ≡ accepted (file_bytes M)
  unfolding conversion
  given c h = passed_checks ((convertible b else 25) ∷ (leb (length (file_bytes M)) room else 18) ∷ []) (accepted (file_bytes M))
      (c, (le→leb (length (file_bytes M)) room h, tt))

  too_long : T (convertible b) → room < length (file_bytes M) → conversion N room ≡ refused 18
  unfolding conversion
  too_long c h =
      checks_next (convertible b) 25 ((leb (length (file_bytes M)) room else 18) ∷ []) (accepted (file_bytes M)) (is_true (convertible b) c)
      ∙ checks_first (leb (length (file_bytes M)) room) 18 [] (accepted (file_bytes M)) (lt-leb (length (file_bytes M)) room h)

  not_plain : (Plain b → ⊥) → conversion N room ≡ refused 25
  unfolding conversion
  not_plain h = test_case (convertible b)
      (λ c. absurd (h (plain_can c)))
      (λ c. checks_first (convertible b) 25 ((leb (length (file_bytes M)) room else 18) ∷ []) (accepted (file_bytes M)) (is_false (convertible b) c))

  -- ---- by the bytes
  abbrev f : List ℕ
  f = file_bytes N

  one_two : b.version ≡ 1 → file_bytes M ≡ take 3 f ++ (2 ∷ 0 ∷ 0 ∷ 1 ∷ drop 5 f)
  one_two e =
      let p = plain_first e in
      to_second e
      ∙ (λ x. 80 ∷ 77 ∷ 78 ∷ 2 ∷ 0 ∷ p.0 x ∷ p.1 x ∷ body N)
      ∙ sym (ap (λ (l : List ℕ). take 3 l ++ (2 ∷ 0 ∷ 0 ∷ 1 ∷ drop 5 l)) (first_bytes N e))

  two_one : b.version ≡ 2 → file_bytes M ≡ take 3 f ++ (1 ∷ 0 ∷ drop 7 f)
  two_one e = to_first e ∙ sym (ap (λ (l : List ℕ). take 3 l ++ (1 ∷ 0 ∷ drop 7 l)) (second_bytes N e))

  one_length : b.version ≡ 1 → length (file_bytes M) ≡ length f + 2
  one_length e = let x = ap length (to_second e) in let y = ap length (first_bytes N e) in omega arith

  two_length : b.version ≡ 2 → length (file_bytes M) + 2 ≡ length f
  two_length e = let x = ap length (to_first e) in let y = ap length (second_bytes N e) in omega arith

  -- ---- what is read of it
  other_version_lem : T (convertible b) → (file : List ℕ) → net_in file ≡ N → OtherVersion file (file_bytes M)
  unfolding converted other_version
  other_version_lem c file e =
      let written = written_read M (converted_sound N s c) in
      let n = written.1 in
      let p = plain_can c in
      let versions : cond (eqb b.version 1) 2 1 + b.version ≡ 3 = board_kinds b s.board_ok_lem (λ v f g. rw v) (λ v f g. rw v) in
      record {
        accepts = written.0;
        same_inputs = ap (λ (x : Net). x.inputs) n ∙ sym (ap (λ (x : Net). x.inputs) e);
        same_gates = ap (λ (x : Net). x.gates) n ∙ sym (ap (λ (x : Net). x.gates) e);
        same_outputs = ap (λ (x : Net). x.outputs) n ∙ sym (ap (λ (x : Net). x.outputs) e);
        other = (λ x. (n x).board.version + (e x).board.version) ∙ versions;
        plain = subst (λ (x : Net). Plain x.board) (sym n) p;
      }

  same_net : (bytes : List ℕ) → conversion N room ≡ accepted bytes → (file : List ℕ) → net_in file ≡ N → OtherVersion file bytes
  unfolding conversion
  same_net bytes h file e =
      let a = checks_accepted ((convertible b else 25) ∷ (leb (length (file_bytes M)) room else 18) ∷ []) (accepted (file_bytes M)) h in
      subst (OtherVersion file) (accepted_inj a.1) (other_version_lem a.0.0 file e)

-- ---- files
module _ (file : List ℕ) (bs : Bytes file) (room : ℕ) (acc : Accepted file) where
  abbrev N : Net
  N = net_in file

  on_net : conversion_of file room ≡ conversion N room
  unfolding conversion_of bind
  on_net = ap (λ (a : Answer Net). bind a (λ N. conversion N room)) ((read_alike file bs).gives acc)

  pub converts : Converts file room
  converts =
      let n = read_sound file bs acc in
      let bytes_are = read_bytes file bs acc in
      let len : length file ≡ length (file_bytes N) = ap length bytes_are in
      record {
        kinds = board_kinds N.board n.board_ok_lem (λ v f g. inl v) (λ v f g. inr v);
        one_into_two = λ v h.
            let z = one_length N n room v in
            on_net ∙ given N n room (can_first N n room v) (omega arith) ∙ ap accepted (one_two N n room v)
            ∙ ap (λ (l : List ℕ). accepted (take 3 l ++ (2 ∷ 0 ∷ 0 ∷ 1 ∷ drop 5 l))) (sym bytes_are);
        two_into_one = λ v p h.
            let z = two_length N n room v in
            on_net ∙ given N n room (can_plain N n room p) (omega arith) ∙ ap accepted (two_one N n room v)
            ∙ ap (λ (l : List ℕ). accepted (take 3 l ++ (1 ∷ 0 ∷ drop 7 l))) (sym bytes_are);
        other_margins = λ v h. on_net ∙ not_plain N n room h;
        one_too_long = λ v h. let z = one_length N n room v in on_net ∙ too_long N n room (can_first N n room v) (omega arith);
        two_too_long = λ v p h. let z = two_length N n room v in on_net ∙ too_long N n room (can_plain N n room p) (omega arith);
        same_network = λ bytes h. same_net N n room bytes (sym on_net ∙ h) file refl;
      }

pub converter_claim : (file : List ℕ) → Bytes file → (room : ℕ) → ConverterClaim file room
unfolding conversion_of bind
converter_claim file bs room = record {
  converts = converts file bs room;
  as_read = λ h. ap (λ (a : Answer Net). bind a (λ N. conversion N room)) ((read_alike file bs).refuses h);
}
