-- By the law of the same name; a record's arrays have their lengths. Assumes nothing.
use mathlib.Core.Path.{◌≡◌}
use lib.ListN.{length}
use borrow.Author.Rules.{rules}
use Rattle.network.specs.RecordLaws.{ArrayLengths}
use Rattle.guarantees.proofs.FileLaws.{written_is_read}
use Rattle.guarantees.proofs.written_is_read.Statement.{statement}
use Rattle.guarantees.proofs.written_is_read.Tie as tie

shaped : (c : tie.Start) → ArrayLengths c.args.held.network
shaped c =
    let f : length c.args.held.network.fanins ≡ 128 = search rules in
    let s : length c.args.held.network.signals ≡ 2048 = search rules in
    let w : length c.args.held.network.weights ≡ 2048 = search rules in
    let t : length c.args.held.network.thresholds ≡ 128 = search rules in
    let d : length c.args.held.network.drivers ≡ 16 = search rules in
    record { fanins = f; signals = s; weights = w; thresholds = t; drivers = d }

returns : tie.Need-returns
returns c = written_is_read c.args.held (shaped c)

pub written_is_read_spec : {M : Type 1} → statement M
written_is_read_spec = tie.close (tie.spec returns)
