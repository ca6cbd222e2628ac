-- The bytes after the board are the last ones of the file, and the counts go on from there.
use Rattle.std.proofs.Common.{arith, ◌≡◌, ◌∙◌, get_or, drop}
use Rattle.std.proofs.lemmas.Grind.{common_steps}
use Rattle.std.proofs.lemmas.Result.{MatchResult-weaker}
use Rattle.basics.specs.Lists.{between}
use Rattle.pmn_format.specs.Format.{done, parse_board, parse_counts, parse_file}
use Rattle.pmn_header.specs.HeadAnswers.{Left}
use Rattle.pmn_header.proofs.LeftLaws.{left_from, left_on, left_board}
use Rattle.pmn_header.proofs.unchecked.read_head.Goals as goal

pub returns : goal.returns
unfolding between
returns c =
    let s = c.args.file.now in
    let r = c.in_ok-board in
    let board : done r.board r.rest.now ≡ parse_board (get_or s 3 0) (drop 5 s) = grind (arith, common_steps, r.ensures) in
    let same : parse_file s ≡ parse_counts r.board r.rest.now = grind (arith, common_steps) in
    let left : Left s r.rest.now = left_on (left_from 5 s (omega arith)) (left_board (get_or s 3 0) (drop 5 s) r.board r.rest.now board) in
    MatchResult-weaker c.read_counts.result c.read_counts.ensures
    (λ p h. record { says = same ∙ h.says; counts = h.counts; rest = left_on left h.rest })
    (λ e h. same ∙ h)
