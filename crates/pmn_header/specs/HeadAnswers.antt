-- Internal: what the reader of a header answers, in the terms of the format. Nothing is proved here.
use Rattle.std.specs.Prelude.{◌≡◌, List, ℕ, ◌-◌, ◌≤◌, length, drop}
use Rattle.network.specs.Threshold.{Net}
use Rattle.pmn_format.specs.Format.{Read, parse_body}
use Rattle.pmn_header.specs.declared.Head.{Head}

-- what follows a header
abbrev pub body_after : Head → List ℕ → Read Net
body_after head l = parse_body head.board head.inputs head.gates head.outputs l

-- the counts of a header are within the limits
pub record HeaderInside (head : Head) : Type 0 where
  pub few_inputs : head.inputs ≤ 40
  pub few_gates : head.gates ≤ 128
  pub few_outputs : head.outputs ≤ 16

-- the bytes that are left of a file: its last ones
pub record Left (s l : List ℕ) : Type 0 where
  pub inside : length l ≤ length s
  pub last : l ≡ drop (length s - length l) s

-- a read of the file s that begins with a header: the bytes after it decide, and they are the last ones of the file
pub record Headed (s : List ℕ) (p : Read Net) (head : Head) (l : List ℕ) : Type 0 where
  pub says : p ≡ body_after head l
  pub counts : HeaderInside head
  pub rest : Left s l
