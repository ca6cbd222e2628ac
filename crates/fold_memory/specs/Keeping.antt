-- Internal: what a sweep still knows after gate g was collapsed into its readers, the gates whose k is not 0. Nothing is proved here.
use Rattle.std.specs.Prelude.{◌≡◌, cond, List, ◌≢◌, ℕ, ◌≤◌, ◌<◌, ltb, length, get_or}
use Rattle.basics.specs.Lists.{tab}
use Rattle.network.specs.Changes.{lowered, raised}

-- place i of the hints, when n of them are lowered: below n the hint of the number that the gate had, lowered; from n on as it was
unfoldable pub hint_at : List ℕ → ℕ → ℕ → ℕ → ℕ
hint_at hints g n i = cond (ltb i n) (lowered g (get_or hints (raised g i) 0)) (get_or hints i 0)

-- the hints of 127 gates
unfoldable pub lowered_hints : List ℕ → ℕ → List ℕ
lowered_hints hints g = tab (length hints) (hint_at hints g 127)

-- the refuser of gate w stays, as left: it is not gate g, and neither it nor gate w read gate g
pub record RefuserKept (ks : List ℕ) (g w refuser left : ℕ) : Type 0 where
  pub known : refuser < 128
  pub other_gate : refuser ≢ g
  pub gate_silent : get_or ks w 0 ≡ 0
  pub reader_silent : get_or ks refuser 0 ≡ 0
  pub moved : left ≡ lowered g refuser

-- of the first n gates, by the numbers that they had, a refuser stays or none is known; the others' places are as they were
pub record RefusersKept (refusers ks : List ℕ) (g n : ℕ) (left : List ℕ) : Type 0 where
  pub long : length left ≡ 128
  pub each : (i : ℕ) → i < n → get_or left i 0 < 128 → RefuserKept ks g (raised g i) (get_or refusers (raised g i) 0) (get_or left i 0)
  pub rest : (i : ℕ) → n ≤ i → get_or left i 0 ≡ get_or refusers i 0
