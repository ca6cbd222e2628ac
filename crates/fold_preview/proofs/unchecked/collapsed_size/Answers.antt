-- The report of the collapsed record. Assumes nothing.
use Rattle.std.proofs.Common.{ap, ◌∙◌}
use Rattle.network.specs.Record.{sound_record}
use Rattle.network_report.specs.Size.{reported}
use Rattle.fold_preview.proofs.unchecked.collapsed_size.Goals as goal

pub size_of-requires : goal.size_of-requires
size_of-requires c = ap sound_record c.collapse_by_pairs.ensures ∙ c.requires.sound

pub returns : goal.returns
returns c = c.size_of.ensures ∙ ap reported c.collapse_by_pairs.ensures
