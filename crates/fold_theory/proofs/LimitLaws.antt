-- The tests of a merge and of a pair as facts, each by its name. Assumes nothing.
use Rattle.std.specs.Prelude.{ℕ, ◌≤◌, T, length}
use Rattle.std.proofs.Common.{leb→le}
use Rattle.basics.specs.TestLaws.{T_and, and_T}
use Rattle.basics.specs.Refusals.{Passed}
use Rattle.network.specs.Threshold.{Net}
use Rattle.network.specs.Limits.{scale_ok, is_gate, sound}
use Rattle.network.specs.Changes.{gate_at}
use Rattle.fold_theory.specs.Merge.{Edge, edge, reads, distinct, merged, on_dial, narrow, feed_tests, limits}
use Rattle.fold_theory.specs.Pair.{pair_tests}

-- ---- two gates of a sound network, of which u feeds v
pub record FeedsGate (N : Net) (u v : ℕ) : Type 0 where
  pub is_sound : T (sound N)
  pub u_gate : T (is_gate N u)
  pub v_gate : T (is_gate N v)
  pub joined : T (reads u (gate_at N v))

pub fed_of : (N : Net) (u v : ℕ) → Passed (feed_tests N u v) → FeedsGate N u v
unfolding feed_tests
fed_of N u v p = let g = T_and (is_gate N u) (is_gate N v) p.1.0 in
    record { is_sound = p.0; u_gate = g.0; v_gate = g.1; joined = p.1.1.0 }

pub of_fed : (N : Net) (u v : ℕ) → FeedsGate N u v → Passed (feed_tests N u v)
unfolding feed_tests
of_fed N u v f = (f.is_sound, (and_T (is_gate N u) (is_gate N v) f.u_gate f.v_gate, (f.joined, tt)))

-- ---- two gates whose pair is searched for
pub record PairSearched (e : Edge) : Type 0 where
  pub is_narrow : T (narrow e)

pub searched_of : (e : Edge) → Passed (pair_tests e) → PairSearched e
unfolding pair_tests
searched_of e p = record { is_narrow = p.0 }

pub of_searched : (e : Edge) → PairSearched e → Passed (pair_tests e)
unfolding pair_tests
of_searched e s = (s.is_narrow, tt)

-- at most 16 distinct feeds
pub narrow_few : (e : Edge) → T (narrow e) → length (distinct e) ≤ 16
unfolding narrow
narrow_few e t = leb→le (length (distinct e)) 16 t

-- ---- a merge within the limits
pub record MergeInLimits (N : Net) (u v k l : ℕ) : Type 0 where
  pub fed : FeedsGate N u v
  pub searched : PairSearched (edge N u v)
  pub k_dial : T (on_dial k)
  pub l_dial : T (on_dial l)
  pub scaled : T (scale_ok (merged (edge N u v) k l))

pub limited_of : (N : Net) (u v k l : ℕ) → Passed (limits N u v k l) → MergeInLimits N u v k l
unfolding limits
limited_of N u v k l p =
    let g = T_and (is_gate N u) (is_gate N v) p.1.0 in
    let d = T_and (on_dial k) (on_dial l) p.1.1.1.0 in
    record {
      fed = record { is_sound = p.0; u_gate = g.0; v_gate = g.1; joined = p.1.1.0 };
      searched = record { is_narrow = p.1.1.1.1.0 };
      k_dial = d.0;
      l_dial = d.1;
      scaled = p.1.1.1.1.1.0;
    }

pub of_limited : (N : Net) (u v k l : ℕ) → MergeInLimits N u v k l → Passed (limits N u v k l)
unfolding limits
of_limited N u v k l h =
    let f = h.fed in
    let s = h.searched in
    let dials = and_T (on_dial k) (on_dial l) h.k_dial h.l_dial in (
      f.is_sound,
      (and_T (is_gate N u) (is_gate N v) f.u_gate f.v_gate, (f.joined, (dials, (s.is_narrow, (h.scaled, tt))))),
    )
