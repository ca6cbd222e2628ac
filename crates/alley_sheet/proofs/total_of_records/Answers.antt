use Rattle.alley_theory.proofs.ClaimLaws.{total_of_records}
use Rattle.alley_sheet.proofs.total_of_records.Goals as goal

pub returns : goal.returns
returns c = total_of_records
