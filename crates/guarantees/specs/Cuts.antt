-- Document 02, No. 12, of what the call on a record promises. Nothing is proved here.
use Rattle.std.specs.Prelude.{◌≡◌, true, false, List, ℕ, ◌^◌, ◌≤◌, ◌<◌}
use Rattle.network.specs.Threshold.{frame, output_bits}
use Rattle.network.specs.Record.{net_of}
use Rattle.call_theory.specs.declared.Call.{Call}
use Rattle.journal.specs.Records.{sound_whole, just_read}
use Rattle.journal.specs.declared.Record.{Record}
use Rattle.cut_theory.specs.Claims.{CutOut}
use Rattle.cut_output.specs.Answers.{cut_record}
use Rattle.guarantees.specs.Lists.{calls_on}

-- an accepted cut: a sound record of the cut, and "the journal is empty"
pub record RecordCut (r : Record) (j : ℕ) : Type 0 where
  pub accepts : (cut_record r j).code ≡ 0
  pub no_steps : (cut_record r j).after ≡ just_read (cut_record r j).after.network
  pub sound_after : sound_whole (cut_record r j).after ≡ true
  pub is_cut : CutOut (net_of r.network) j (net_of (cut_record r j).after.network)

-- "With folding and cutting in either order the bit is the same": a record just read, folded by the calls cs and then cut, or cut and then folded
-- by the calls ds
pub record EitherOrder (r : Record) (j : ℕ) (cs ds : List Call) : Type 0 where
  pub accepts : (cut_record (calls_on r cs) j).code ≡ 0
  pub same_bit : (x : ℕ) → x < 2 ^ r.network.inputs
      → output_bits (net_of (cut_record (calls_on r cs) j).after.network) (frame x)
      ≡ output_bits (net_of (calls_on (cut_record r j).after ds).network) (frame x)

-- of every record and any number: 20, then 8, "An output number that the network lacks", or the cut
pub record CutClaim (r : Record) (j : ℕ) : Type 0 where
  pub unsound : sound_whole r ≡ false → cut_record r j ≡ record { code = 20; after = r }
  pub stray : sound_whole r ≡ true → r.network.outputs ≤ j → cut_record r j ≡ record { code = 8; after = r }
  pub given : sound_whole r ≡ true → j < r.network.outputs → RecordCut r j
  pub either_order : sound_whole r ≡ true → j < r.network.outputs → r ≡ just_read r.network → (cs ds : List Call)
      → EitherOrder r j cs ds
