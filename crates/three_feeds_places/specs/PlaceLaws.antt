-- Laws of an entry as numbers: from what the code holds to the numbers of its entry, and the answer of the call. Assumes nothing.
use Rattle.std.specs.Prelude.{◌≡◌, List, [], ◌∷◌, ◌++◌, ℕ, ◌<◌, ◌≤◌, ℤ, pos, length}
use Rattle.std.proofs.Math.Path.{refl, ap}
use Rattle.std.proofs.Common.{sym, ◌∙◌, le-leb}
use Rattle.std.proofs.lemmas.Bool.{lt-leb}
use Rattle.std.proofs.Math.ListN.{drop}
use Rattle.basics.specs.Refusals.{accepted, refused, code_of, stored}
use Rattle.basics.specs.RefusalLaws.{checks_first, checks_next, checks_none, left_one}
use Rattle.three_feeds.specs.Rule.{has_gate, entry_numbers}
use Rattle.three_feeds.specs.Table.{table_entry}
use Rattle.three_feeds_places.specs.Places.{places_of, entry_places}
use Rattle.three_feeds.specs.declared.TableEntry.{TableEntry}
use Rattle.three_feeds.specs.declared.TableEntry.TheVariants.{HasGate, NoGate}

module _ {found : TableEntry} {p q r s : ℤ} where
  -- four numbers that are those of a gate
  pub gate_places_lem : {a b c t : ℤ} → found ≡ HasGate a b c t → p ≡ a → q ≡ b → r ≡ c → s ≡ t
      → (pos 1 ∷ p ∷ q ∷ r ∷ s ∷ []) ≡ places_of found
  unfolding places_of has_gate entry_numbers
  gate_places_lem e f g h i = simp (f, g, h, i) (sym (ap places_of e))

  -- four numbers that are settings
  pub witness_places : {x y u v : ℕ} → found ≡ NoGate x y u v → p ≡ pos x → q ≡ pos y → r ≡ pos u → s ≡ pos v
      → (pos 0 ∷ p ∷ q ∷ r ∷ s ∷ []) ≡ places_of found
  unfolding places_of has_gate entry_numbers
  witness_places e f g h i = simp (f, g, h, i) (sym (ap places_of e))

-- ---- what the call leaves
module _ (table : ℕ) (lent : List ℤ) where
  pub too_few : length lent < 5 → entry_places table lent ≡ refused 18
  unfolding entry_places
  too_few h = checks_first _ 18 _ _ (lt-leb 5 (length lent) h)

  pub too_high : 5 ≤ length lent → 255 < table → entry_places table lent ≡ refused 14
  unfolding entry_places
  too_high h k = checks_next _ 18 _ _ (le-leb 5 (length lent) h) ∙ checks_first _ 14 _ _ (lt-leb table 255 k)

  entry_placed : 5 ≤ length lent → table ≤ 255 → entry_places table lent ≡ accepted (places_of (table_entry table))
  unfolding entry_places
  entry_placed h k = checks_next _ 18 _ _ (le-leb 5 (length lent) h) ∙ checks_next _ 14 _ _ (le-leb table 255 k) ∙ checks_none _

  places_length : (e : TableEntry) → length (places_of e) ≡ 5
  unfolding places_of entry_numbers
  places_length (HasGate a b c t) = refl
  places_length (NoGate x y u v) = refl

  pub entry_left : {e : TableEntry} {after : List ℤ} → 5 ≤ length lent → table ≤ 255 → e ≡ table_entry table
      → after ≡ places_of e ++ drop 5 lent
      → (0 ≡ code_of (entry_places table lent)) × (after ≡ stored (entry_places table lent) lent)
  unfolding code_of stored
  entry_left {e} {after} h k q a =
      let l = left_one (entry_placed h k) lent in (
        l.0,
        a ∙ ap (λ (n : ℕ). places_of e ++ drop n lent) (sym (places_length e))
            ∙ ap (λ (f : TableEntry). places_of f ++ drop (length (places_of f)) lent) q ∙ l.1,
      )
