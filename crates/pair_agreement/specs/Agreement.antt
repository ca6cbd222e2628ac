-- Internal: two gates without margins. Nothing is proved here.
use Rattle.fold_theory.specs.Aligned.{without_margins}
use Rattle.pair_theory.specs.declared.Alignment.{Alignment}

-- the same two gates with the margins of version 1
unfoldable pub plainly : Alignment → Alignment
plainly a = record { count = a.count; signals = a.signals; us = a.us; vs = a.vs; thresholds = without_margins a.thresholds }
