-- A list of calls given as numbers, five to a call: kind (0 merge u v k l, 1 drop s, 2 collapse s, 3 sweep B, 4 preview s, 5 undo) and four
-- numbers, of which a kind passes over those that it does not use; and the four numbers that each call's answer is. Nothing is proved here.
use Rattle.std.specs.Prelude.{Bool, true, false, ◌&&◌, List, [], ◌∷◌, ℕ, zero, suc, leb}
use Rattle.call_theory.specs.declared.Figures.{Figures}
use Rattle.call_theory.specs.declared.Call.{Call}
use Rattle.call_theory.specs.declared.Call.TheVariants.{Merge, Drop, Collapse, Sweep, Preview, Undo}

-- the call of a kind from 0 to 5 and four numbers
unfoldable pub call_of : ℕ → ℕ → ℕ → ℕ → ℕ → Call
call_of zero u v k l = Merge u v k l
call_of (suc zero) s v k l = Drop s
call_of (suc (suc zero)) s v k l = Collapse s
call_of (suc (suc (suc zero))) b v k l = Sweep b
call_of (suc (suc (suc (suc zero)))) s v k l = Preview s
call_of (suc (suc (suc (suc (suc n))))) a b c d = Undo

-- "the length of `calls` is no multiple of 5 or a kind is above 5" does not apply
unfoldable pub well_formed : List ℕ → Bool
well_formed [] = true
well_formed (a ∷ []) = false
well_formed (a ∷ b ∷ []) = false
well_formed (a ∷ b ∷ c ∷ []) = false
well_formed (a ∷ b ∷ c ∷ d ∷ []) = false
well_formed (kind ∷ a ∷ b ∷ c ∷ d ∷ ns) = leb kind 5 && well_formed ns

unfoldable pub calls_in : List ℕ → List Call
calls_in [] = []
calls_in (a ∷ []) = []
calls_in (a ∷ b ∷ []) = []
calls_in (a ∷ b ∷ c ∷ []) = []
calls_in (a ∷ b ∷ c ∷ d ∷ []) = []
calls_in (kind ∷ a ∷ b ∷ c ∷ d ∷ ns) = call_of kind a b c d ∷ calls_in ns

-- "four numbers for each call": its code and its three numbers
abbrev pub four_of : ℕ → Figures → List ℕ
four_of code f = code ∷ f.first ∷ f.second ∷ f.third ∷ []
