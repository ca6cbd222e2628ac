-- The longest file has room; in a shorter one the file after the list is measured.
use borrow.Author.Rules.{rules}
use mathlib.Core.Path.{◌≡◌, sym, ap, ◌∙◌, subst}
use Prim.Native.Nat.{ℕ}
use native.Mathlib.Omega.{arith}
use borrow.Author.Tests.{le-leb}
use lib.Dec.{leb}
use lib.ListN.{length}
use Rattle.network.specs.Threshold.{Net}
use Rattle.network.specs.Record.{net_of}
use Rattle.network.specs.RecordLaws.{net_of_layout, holds_layout}
use Rattle.network.specs.Places.{HoldsSound}
use Rattle.network.specs.declared.Network.{Network}
use Rattle.pmn_format.specs.Format.{file_bytes}
use Rattle.pmn_format.proofs.LengthLaws.{longest}
use Rattle.call_numbers.specs.Numbers.{calls_in}
use Rattle.call_runs.specs.Runs.{net_after}
use Rattle.call_runs.proofs.RunLaws.{after_sound}
use Rattle.call_lists.proofs.unchecked.has_room.Statement.{statement}
use Rattle.call_lists.proofs.unchecked.has_room.Tie as tie

returns : tie.Need-returns-then-room-ge-LONGEST_FILE
returns c =
    let cs = calls_in c.args.numbers.now in
    let N = net_after (net_of c.args.network) cs in
    sym (le-leb (length (file_bytes N)) c.args.room (omega (arith, longest N (after_sound c.args.network c.requires.0 cs))))

file_length_requires : tie.Need-file_length-requires
file_length_requires c κs =
    let cs = calls_in c.args.numbers.now in
    subst HoldsSound (sym c.run-after.ensures) (holds_layout (net_after (net_of c.args.network) cs) (after_sound c.args.network c.requires.0 cs))

returns_2 : tie.Need-returns
returns_2 c =
    let cs = calls_in c.args.numbers.now in
    let N = net_after (net_of c.args.network) cs in
    let e : c.file_length.result ≡ length (file_bytes N) =
    c.file_length.ensures
    ∙ ap (λ (r : Network). length (file_bytes (net_of r))) c.run-after.ensures
    ∙ ap (λ (M : Net). length (file_bytes M)) (net_of_layout N (after_sound c.args.network c.requires.0 cs)) in
    ap (λ (n : ℕ). leb n c.args.room) e

pub has_room_spec : {M : Type 1} → statement M
has_room_spec = tie.close (tie.spec returns (λ c κs. search rules) file_length_requires returns_2)
