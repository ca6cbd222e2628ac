-- What the call on a whole file answers, by the call that it makes on the record of an accepted file. Assumes nothing.
use Rattle.std.specs.Prelude.{◌≡◌, refl, cond, ◌&&◌, List, [], ◌∷◌, ◌++◌, ◌≢◌, ℕ, zero, suc, ◌+◌, ◌≤◌, length, drop, set}
use Rattle.std.proofs.Math.Path.{sym, ap}
use Rattle.std.proofs.Common.{◌∙◌, subst, arith, length-take-le}
use Rattle.std.proofs.Math.ListN.{take}
use Rattle.std.proofs.Math.Seq.{paste}
use Rattle.basics.specs.Refusals.{Answer, accepted, refused, checks, bind, stored}
use Rattle.basics.specs.TestLaws.{cond_case}
use Rattle.basics.specs.PlaceLaws.{take_places}
use Rattle.network.specs.Threshold.{Net}
use Rattle.network.specs.Limits.{sound, is_gate}
use Rattle.network.specs.Changes.{gate_at}
use Rattle.network.specs.declared.Network.{Network}
use Rattle.fold_theory.specs.Merge.{edge, reads, distinct, narrow, feed_tests}
use Rattle.fold_theory.proofs.LimitLaws.{narrow_few}
use Rattle.pmn_opening.specs.Places.{answer_of}
use Rattle.pmn_opening.specs.Opening.{FileOpen}
use Rattle.pmn_opening.specs.OpeningLaws.{open_on}
use Rattle.fold_merge.specs.AnswerLaws.{on_layout}
use Rattle.fold_feeds.specs.declared.DistinctFeeds.{DistinctFeeds}
use Rattle.fold_feeds.specs.Feeds.{feeds_of, feeds, as_feeds, distinct_feeds}
use Rattle.fold_feeds.specs.Parts.{feed_places}
use Rattle.fold_feeds.specs.Files.{distinct_places}

-- a list of at most 16, or a refusal whose number is not 0
abbrev FewOrRefused : Answer (List ℕ) → Type 0
FewOrRefused (accepted ds) = length ds ≤ 16
FewOrRefused (refused c) = c ≢ 0

feeds_listed : (N : Net) (u v : ℕ) → FewOrRefused (feeds N u v)
unfolding feeds feed_tests feeds_of checks edge reads
feeds_listed N u v =
    let e = edge N u v in
    let last = cond (narrow e) (accepted (distinct e)) (refused 7) in
    let joined = cond (reads u (gate_at N v)) last (refused 12) in
    cond_case FewOrRefused (sound N) {x = cond (is_gate N u && is_gate N v) joined (refused 11)} {y = refused 20}
    (λ t. cond_case FewOrRefused (is_gate N u && is_gate N v) {x = joined} {y = refused 11}
    (λ t. cond_case FewOrRefused (reads u (gate_at N v)) {x = last} {y = refused 12}
    (λ t. cond_case FewOrRefused (narrow e) {x = accepted (distinct e)} {y = refused 7} (λ t. narrow_few e t) (λ t. omega arith))
    (λ t. omega arith))
    (λ t. omega arith))
    (λ t. omega arith)

-- their places
feed_places_lem : (a : Answer (List ℕ)) → FewOrRefused a → bind a (λ ds. accepted (length ds ∷ ds)) ≡ answer_of (as_feeds a).code (feed_places (as_feeds a))
unfolding bind as_feeds answer_of
feed_places_lem (accepted ds) n = ap (λ (xs : List ℕ). accepted (length ds ∷ xs)) (sym (take_places 16 0 ds n))
feed_places_lem (refused zero) n = absurd (n refl)
feed_places_lem (refused (suc c)) n = refl

feed_count : (a : Answer (List ℕ)) → FewOrRefused a → (as_feeds a).count ≤ 16
unfolding as_feeds
feed_count (accepted ds) n = n
feed_count (refused c) n = omega arith

module _ {file : List ℕ} {r : Network} (lent : List ℕ) (f : FileOpen file (length lent) 17 r) (u v : ℕ) {d : DistinctFeeds} (e : d ≡ distinct_feeds r u v) where
  feeds_read : d ≡ as_feeds (feeds f.net u v)
  unfolding distinct_feeds
  feeds_read = e ∙ ap (λ (x : Network). distinct_feeds x u v) f.laid ∙ ap as_feeds (on_layout f.net f.sound (λ M. feeds M u v))

  pub distinct_few : d.count ≤ 16
  distinct_few = subst (λ (x : DistinctFeeds). x.count ≤ 16) (sym feeds_read) (feed_count (feeds f.net u v) (feeds_listed f.net u v))

  pub distinct_answer : distinct_places file u v lent ≡ answer_of d.code (feed_places d)
  unfolding distinct_places
  distinct_answer =
      let N = f.net in
      open_on f _
      ∙ feed_places_lem (feeds N u v) (feeds_listed N u v)
      ∙ sym (ap (λ (x : DistinctFeeds). answer_of x.code (feed_places x)) feeds_read)

-- a number in place 0, and as many members of a list copied after it
pub pasted : (xs ss : List ℕ) (n : ℕ) {c : ℕ} → 1 ≤ length xs → n ≤ length ss → c ≡ 0 → paste (set xs 0 n) 1 ss n ≡ stored (answer_of c (n ∷ take n ss)) xs
pasted [] ss n h k z = absurd (omega arith)
pasted (y ∷ ys) ss n h k z =
    let e : 1 + n ≡ suc n = omega arith in
    ap (λ (m : ℕ). (n ∷ take n ss) ++ drop m (n ∷ ys)) e
    ∙ ap (λ (m : ℕ). (n ∷ take n ss) ++ drop (suc m) (y ∷ ys)) (sym (length-take-le n ss k))
    ∙ (unfold stored answer_of in ap (λ (m : ℕ). stored (answer_of m (n ∷ take n ss)) (y ∷ ys)) (sym z))
