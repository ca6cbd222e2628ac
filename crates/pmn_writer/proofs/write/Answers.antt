use Rattle.std.proofs.Common.{length, sym}
use Rattle.pmn_writer.specs.WriteAnswerLaws.{write_broken, written_refused}
use Rattle.pmn_writer.proofs.write.Goals as goal

pub returns-else-is_sound : goal.returns-else-is_sound
returns-else-is_sound c =
    let a = c.args in
    let w = written_refused a.network 20 a.out.now (write_broken a.network (length a.out.now) (sym c.if-is_sound.ensures)) in
    record { value = w.0; out_after = w.1 }
