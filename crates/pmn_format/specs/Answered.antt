-- Internal: what the readers of a file's parts answer, in the terms of the format. Nothing is proved here.
use Rattle.std.specs.Prelude.{List, ℕ, Result, Ok, Err}
use denote.Ref.{Bor}
use Rattle.refusals.specs.declared.Refusal.{Refusal}
use Rattle.refusals.specs.Numbers.{number_of}
use Rattle.pmn_format.specs.Format.{Read, refused, done, and_then}

-- a value and the bytes after it, or the number of a refusal
abbrev pub as_read : {A : Type 0} → Result (A × Bor (List ℕ)) Refusal → Read A
as_read (Ok p) = done p.0 p.1.now
as_read (Err e) = refused (number_of e)

-- the same where the value is left in a lent place
abbrev pub as_left : {A : Type 0} → A → Result (Bor (List ℕ)) Refusal → Read A
as_left a (Ok l) = done a l.now
as_left a (Err e) = refused (number_of e)

-- a read with its value put through f
abbrev pub mapped : {A B : Type 0} → (A → B) → Read A → Read B
mapped f p = and_then p (λ a l. done (f a) l)
