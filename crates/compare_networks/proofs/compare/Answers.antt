-- Both records are sound, or the refusal is 20.
use Rattle.std.proofs.Common.{refl, sym, ◌∙◌}
use Rattle.compare_networks.specs.AnswerLaws.{broken, sound}
use Rattle.compare_networks.proofs.compare.Goals as goal
use Rattle.compare_networks.proofs.compare.Goals.{then-not-is_sound-via-then-not-is_sound, then-not-is_sound-via-else-not-is_sound+then-not-is_sound-2}

pub returns-then-not-is_sound : goal.returns-then-not-is_sound
returns-then-not-is_sound c =
    let a = c.args in
    elim c.then-not-is_sound.branch [
      | then-not-is_sound-via-then-not-is_sound w ↦
          broken a.first a.second a.budget _ (rw (sym c.is_sound.ensures ∙ w.if-not-is_sound.true) refl) c.refusal.ensures
      | then-not-is_sound-via-else-not-is_sound+then-not-is_sound-2 w ↦
          broken a.first a.second a.budget _
          (rw (sym c.is_sound.ensures ∙ w.if-not-is_sound.false, sym w.is_sound-else-not-is_sound.ensures ∙ w.if-not-is_sound-2.true) refl) c.refusal.ensures
    ]

pub returns : goal.returns
returns c =
    let a = c.args in
    sound a.first a.second a.budget _
    (rw (sym c.is_sound.ensures ∙ c.if-not-is_sound.false, sym c.is_sound-else-not-is_sound.ensures ∙ c.if-not-is_sound-2.false) refl) c.compare_sound.ensures
