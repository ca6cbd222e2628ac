-- Internal: what a refutation shows. Nothing is proved here.
use Rattle.compare_refutation.specs.declared.Ending.{Ending}
use Rattle.compare_refutation.specs.declared.Ending.TheVariants.{Refuted, Worth, Spent}

-- what holds if it refuted
abbrev pub IfRefuted : Ending → Type 0 → Type 0
IfRefuted Refuted P = P
IfRefuted (Worth frame) P = Unit {0}
IfRefuted Spent P = Unit {0}
