-- By the version; a byte is at most 255, so the code need not ask for it. Assumes nothing.
use Rattle.std.proofs.Common.{◌≡◌, ◌≢◌, refl, sym, Bool, true, false, ◌||◌, arith}
use Rattle.std.proofs.lemmas.Bool.{le-leb}
use Rattle.basics.specs.Lists.{between}
use Rattle.basics.specs.TestLaws.{and_true, eqb_no}
use Rattle.network.specs.Limits.{board_ok}
use Rattle.network_limits.proofs.board_sound.Goals as goal

or_none : (b : Bool) → b || false ≡ b
or_none true = refl
or_none false = refl

pub returns-in-1 : goal.returns-in-1
unfolding board_ok
returns-in-1 c = rw c.in-1.is (sym (or_none _))

pub returns-in-2 : goal.returns-in-2
unfolding board_ok between
returns-in-2 c = let b = c.args.board in rw (c.in-2.is, le-leb b.on 255 (omega arith), le-leb b.off 255 (omega arith)) (sym (and_true _))

pub returns-in_default : goal.returns-in_default
unfolding board_ok
returns-in_default c =
    let v = c.args.board.version in
    let not_1 : v ≢ 1 = λ e. absurd (omega arith) in
    let not_2 : v ≢ 2 = λ e. absurd (omega arith) in
    rw (eqb_no v 1 not_1, eqb_no v 2 not_2)
