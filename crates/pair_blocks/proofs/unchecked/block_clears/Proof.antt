-- The ends settle the block, or every setting is tried. Assumes nothing.
use mathlib.Core.Path.{◌≡◌, sym, ◌∙◌}
use lib.IntN.{ℤ, pos, ◌+ℤ◌, ◌-ℤ◌}
use mir.Syntax.{w32}
use mir.Val.{to_z, of_z}
use Rattle.basics.specs.SizeLaws.{read_back}
use borrow.Author.Rules.{rules}
use Rattle.fold_theory.specs.Aligned.{mixed_threshold}
use Rattle.fold_theory.specs.declared.Thresholds.{Thresholds}
use Rattle.pair_spans.specs.Spans.{MixedSums, Spanned}
use Rattle.pair_blocks.specs.Blocks.{block_between, block_clear}
use Rattle.pair_blocks.specs.BlockLaws.{clear_off, clear_on, block_is}
use Rattle.pair_blocks.proofs.unchecked.block_clears.Statement.{statement}
use Rattle.pair_blocks.proofs.unchecked.block_clears.Tie as tie

-- the bounds, as the machine reads them back
module _ (c : tie.After-lower_threshold-lower) where
  abbrev start : tie.Start
  start = c.before.before

  abbrev t : Thresholds
  t = start.args.thresholds

  abbrev upper : ℤ
  upper = to_z w32 (of_z w32 c.upper_threshold-upper.result)

  abbrev lower : ℤ
  lower = to_z w32 (of_z w32 c.lower_threshold-lower.result)

  upper_is : upper ≡ mixed_threshold t start.args.k start.args.l +ℤ pos t.board.on
  upper_is = read_back w32 c.upper_threshold-upper.type_inv c.upper_threshold-upper.ensures

  lower_is : lower ≡ mixed_threshold t start.args.k start.args.l -ℤ pos t.board.off
  lower_is = read_back w32 c.lower_threshold-lower.type_inv c.lower_threshold-lower.ensures

  -- what is asked of the sums
  mixed : MixedSums start.args.k start.args.l start.args.lows start.args.sums_u.now start.args.sums_v.now start.args.mixes.now
  mixed = start.requires.1.1.1.0

  v_between : Spanned start.args.lows start.args.sums_v.now start.args.span_v
  v_between = start.requires.1.1.1.1.0

  between : Spanned start.args.lows start.args.mixes.now start.args.span
  between = start.requires.1.1.1.1.1

  -- the test with the bounds is the test of the block
  tried : block_between t upper lower start.args.lows start.args.sums_u.now start.args.sums_v.now start.args.mixes.now
      ≡ block_clear t start.args.k start.args.l start.args.lows start.args.sums_u.now start.args.sums_v.now
  tried = block_is t start.args.k start.args.l mixed upper_is lower_is

returns : tie.Need-returns-then-settled_off
returns c =
    let d = c.before.before in
    let settled = sym c.settled_off.ensures ∙ c.if-settled_off.true in
    sym (clear_off (t d) (upper d) (lower d) (start d).args.sums_u.now (v_between d) (between d) settled) ∙ tried d

returns_2 : tie.Need-returns-then-settled_on
returns_2 c =
    let d = c.before.before.before.before in
    let settled = sym c.settled_on.ensures ∙ c.if-settled_on.true in
    sym (clear_on (t d) (upper d) (lower d) (start d).args.sums_u.now (v_between d) (between d) settled) ∙ tried d

returns_3 : tie.Need-returns
returns_3 c = c.clears_at_once.ensures ∙ tried c.before.before.before.before.before

pub block_clears_spec : {M : Type 1} → statement M
block_clears_spec =
    tie.close
    (tie.spec
    (λ c κs. search rules)
    (λ c κs. search rules)
    (λ c κs. search rules)
    returns
    (λ c κs. search rules)
    returns_2
    (λ c κs. search rules)
    returns_3)
