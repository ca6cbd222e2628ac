-- The read's refusal, or the size of the network read. Assumes nothing.
use mathlib.Core.Path.{◌≡◌, ◌∙◌}
use borrow.Author.Rules.{rules}
use Rattle.pmn_format.proofs.LengthLaws.{bytes_of}
use Rattle.pmn_opening.specs.OpeningLaws.{file_sound}
use Rattle.alley_theory.specs.Alley.{whole, lane_entry}
use Rattle.alley_theory.specs.Answers.{as_entry}
use Rattle.alley_theory.specs.Writes.{EntryFor}
use Rattle.alley_theory.proofs.EntryLaws.{entry_made, refused_file, read_file}
use Rattle.alley_theory.specs.declared.Entry.{Entry}
use Rattle.alley_lane.proofs.unchecked.file_entry.Statement.{statement}
use Rattle.alley_lane.proofs.unchecked.file_entry.Tie as tie

-- the entry of the file's lane
made : (c : tie.After-refusal-code) → {e : Entry}
    → let l = whole c.args.file.now in e ≡ as_entry (lane_entry l) → EntryFor l e
made c h =
    let file = c.args.file.now in
    entry_made (whole file) (bytes_of file (λ i. (c.shared_slice_known-1.given i).fits)) h

refusal_requires : tie.Need-refusal-code-requires
refusal_requires c κs = (λ i. (c.shared_slice_known-1.given i).fits, c.read-loaded.ensures)

returns : tie.Need-returns-then-code-ne0
returns c = let o = c.before.before in made o (c.refused_entry.ensures ∙ refused_file o.refusal-code.ensures c.if-code-ne0.true)

size_of_requires : tie.Need-size_of-size-requires
size_of_requires c κs = file_sound (c.refusal-code.ensures.gives c.if-code-ne0.false)

returns_2 : tie.Need-returns
returns_2 c = let o = c.before.before.before in made o (read_file o.refusal-code.ensures c.if-code-ne0.false c.size_of-size.ensures)

pub file_entry_spec : {M : Type 1} → statement M
file_entry_spec = tie.close (tie.spec (λ c κs. search rules) refusal_requires (λ c κs. search rules) returns size_of_requires returns_2)
