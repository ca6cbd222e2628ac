-- Internal: what the laws prove of a list of calls on states; what is claimed of lists on records is `ListClaim` of `guarantees`.
use Rattle.std.specs.Prelude.{◌≡◌, List, [], ◌∷◌, ℕ, ◌^◌, ◌≤◌, ◌<◌, zero, suc, T, length}
use Rattle.network.specs.Threshold.{Net, frame, output_bits}
use Rattle.call_theory.specs.Steps.{State, just_opened, sound_state}
use Rattle.call_theory.specs.Calls.{answer, leaves, calls, steps_accepted, Given}
use Rattle.call_theory.specs.declared.Call.{Call}
use Rattle.call_theory.specs.Guarantee.{Claim}
use Rattle.basics.specs.Refusals.{Answer, accepted, refused}
use Rattle.call_theory.specs.declared.Call.TheVariants.{Undo}

-- where repeated undos end: a state, and the number of the refusal, 0 if there was none
pub record Ended : Type 0 where
  pub state : State
  pub code : ℕ

unfoldable pub end_of : State → Answer Given → (State → Ended) → Ended
end_of q (accepted g) next = next g.state
end_of q (refused c) next = record { state = q; code = c }

-- "repeating undo until it is refused", at most n times
unfoldable pub undoing : ℕ → State → Ended
undoing zero q = record { state = q; code = 0 }
undoing (suc n) q = end_of q (answer q Undo) (undoing n)

-- each call of a list, at the state that the calls before it leave
abbrev pub Claims : State → List Call → Type 0
Claims q [] = Unit {0}
Claims q (c ∷ cs) = Claim q c × Claims (leaves q (answer q c)) cs

-- a list of calls from the network R of a read on: the state that it leaves is sound, has R's version and margins and as many inputs and
-- outputs, and agrees with R on every frame ("Undo joins the calls in the list that no output may notice"); "If at most 64 steps were accepted
-- since the read, repeating undo until it is refused with 22 gives the network read"; and each call is as claimed
pub record Preserved (R : Net) (cs : List Call) : Type 0 where
  pub sound_after : T (sound_state (calls (just_opened R) cs))
  pub same_board : (calls (just_opened R) cs).net.board ≡ R.board
  pub same_inputs : (calls (just_opened R) cs).net.inputs ≡ R.inputs
  pub same_outputs : length (calls (just_opened R) cs).net.outputs ≡ length R.outputs
  pub agree : (n : ℕ) → n < 2 ^ R.inputs → output_bits (calls (just_opened R) cs).net (frame n) ≡ output_bits R (frame n)
  pub taken_back : steps_accepted (just_opened R) cs ≤ 64 → undoing 65 (calls (just_opened R) cs) ≡ record { state = just_opened R; code = 22 }
  pub each_call : Claims (just_opened R) cs
