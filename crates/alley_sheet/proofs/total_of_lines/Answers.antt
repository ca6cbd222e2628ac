use Rattle.alley_theory.proofs.ClaimLaws.{total_of_lines}
use Rattle.alley_sheet.proofs.total_of_lines.Goals as goal

pub returns : goal.returns
returns c = total_of_lines
