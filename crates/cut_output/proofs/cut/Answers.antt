-- The two refusals in their order, then the cut.
use Rattle.std.proofs.Common.{◌≡◌, sym, ap, ◌∙◌}
use Rattle.journal.specs.Records.{just_read}
use Rattle.journal.proofs.AnswerLaws.{whole_network}
use Rattle.cut_output.proofs.AnswerLaws.{record_broken, record_stray, record_done}
use Rattle.cut_output.proofs.cut.Goals as goal

pub returns-then-not-is_sound : goal.returns-then-not-is_sound
returns-then-not-is_sound c = sym (record_broken _ _ (sym c.is_sound.ensures ∙ c.if-not-is_sound.true))

pub returns-then-held-output : goal.returns-then-held-output
returns-then-held-output c = sym (record_stray _ _ (sym c.is_sound.ensures ∙ c.if-not-is_sound.false) c.if-held-output.true)

pub cut_sound-network-requires : goal.cut_sound-network-requires
cut_sound-network-requires c = (whole_network _ (sym c.is_sound.ensures ∙ c.if-not-is_sound.false), c.if-held-output.false)

pub returns : goal.returns
returns c =
    let made : c.just_read-after.result ≡ just_read _ = c.just_read-after.ensures ∙ ap just_read c.cut_sound-network.ensures in
    (λ x. record { code = 0; after = made x }) ∙ sym (record_done _ _ (sym c.is_sound.ensures ∙ c.if-not-is_sound.false) c.if-held-output.false)
