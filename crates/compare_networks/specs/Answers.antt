-- What a comparison of two records answers, with the order 20, 19. Nothing is proved here.
use Rattle.std.specs.Prelude.{◌≡◌, ◌&&◌, [], ◌∷◌, ℕ}
use Rattle.basics.specs.Refusals.{Answer, accepted, refused, ◌else◌, checks}
use Rattle.network.specs.Record.{net_of, sound_record}
use Rattle.network.specs.declared.Network.{Network}
use Rattle.compare_theory.specs.Verdicts.{Pair, comparable, Verdict}
use Rattle.compare_networks.specs.declared.Compared.{Compared}

-- the two networks, or 20, 19
unfoldable pub compare_answer : Network → Network → Answer Pair
compare_answer a b = checks ((sound_record a && sound_record b else 20) ∷ []) (comparable (net_of a) (net_of b))

-- a verdict on the two networks; or the refusal's number, and 0 for every other number
abbrev pub ComparedAs : Answer Pair → ℕ → Compared → Type 0
ComparedAs (accepted p) budget r = (r.code ≡ 0) × Verdict p.first p.second budget r.verdict r.frame r.steps
ComparedAs (refused c) budget r = r ≡ record { code = c; verdict = 0; frame = 0; steps = 0 }
