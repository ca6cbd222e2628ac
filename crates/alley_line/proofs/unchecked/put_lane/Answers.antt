use Rattle.std.proofs.Common.{◌≡◌, ℕ, ◌+◌, ◌≤◌, ap, sym, ◌∙◌, arith, length, length-append}
use Rattle.basics.specs.Refusals.{Answer}
use Rattle.basics.specs.WriteLaws.{tail_length}
use Rattle.texts.specs.Texts.{decimal}
use Rattle.texts.proofs.DecimalLaws.{decimal_short}
use Rattle.texts.proofs.PutLaws.{put_text, put_part, put_length}
use Rattle.alley_theory.specs.Alley.{Size, size_text, lane_text, refused_word}
use Rattle.alley_theory.specs.Writes.{entry_in, size_with, Listable}
use Rattle.alley_theory.proofs.EntryLaws.{in_refused, in_size, listable_fair}
use Rattle.alley_theory.proofs.TextLaws.{lane_parts, refused_parts, lane_length_lem, refused_length, lane_short}
use Rattle.alley_theory.specs.declared.Entry.{Entry}
use Rattle.alley_line.proofs.unchecked.put_lane.Goals as goal

-- the parts of a line have room in 21 bytes
module _ (n : ℕ) (e : Entry) (h : n ≤ 65535) (l : Listable e) where
  refused_room : (e.code ≡ 0 → ⊥) → length (decimal n) + length (decimal e.code) + 10 ≤ 21
  refused_room z =
      omega (arith, refused_length n e.code, ap (λ (x : Answer Size). length (lane_text n x)) (in_refused e z), lane_short n h (entry_in e) (listable_fair e l))

  size_room : e.code ≡ 0 → length (decimal n) + 1 + length (size_text (size_with e.gates e.cost)) ≤ 21
  size_room z =
      omega (
        arith,
        lane_length_lem n (size_with e.gates e.cost),
        ap (λ (x : Answer Size). length (lane_text n x)) (in_size e z),
        lane_short n h (entry_in e) (listable_fair e l),
      )

pub put_decimal-at-requires : goal.put_decimal-at-requires
put_decimal-at-requires c = omega (arith, decimal_short c.args.position 4 (omega arith))

pub put_last-requires : goal.put_last-requires
put_last-requires c =
    let room = refused_room c.args.position c.args.entry c.requires.position_bound c.requires.listable c.if-entry-ne0.true in
    let same = put_length c.put_decimal-at.ensures (omega arith) in
    rw c.from.ensures (omega (arith, tail_length c.put_decimal-at.result c.put_decimal-at.new.out))

pub returns-then-entry-ne0 : goal.returns-then-entry-ne0
unfolding refused_word
returns-then-entry-ne0 c =
    let a = c.args in
    let room = refused_room a.position a.entry c.requires.position_bound c.requires.listable c.if-entry-ne0.true in
    let digits = ap (λ (k : ℕ). length (decimal k)) c.from.ensures in
    put_text (put_part c.put_decimal-at.ensures (omega (arith, simp length-append at c.put_last.ensures.long)) c.put_last.ensures)
    (rw c.from.ensures (refused_parts a.position a.entry.code ∙ ap (lane_text a.position) (sym (in_refused a.entry c.if-entry-ne0.true))))

pub put_size-requires : goal.put_size-requires
put_size-requires c =
    let room = size_room c.args.position c.args.entry c.requires.position_bound c.requires.listable c.if-entry-ne0.false in
    let same = put_length c.put_decimal-at.ensures (omega arith) in
    omega (arith, tail_length c.put_decimal-at.result c.put_decimal-at.new.out)

pub returns : goal.returns
returns c =
    let a = c.args in
    let room = size_room a.position a.entry c.requires.position_bound c.requires.listable c.if-entry-ne0.false in
    put_text (put_part c.put_decimal-at.ensures (omega (arith, c.put_size.ensures.long)) c.put_size.ensures)
    (lane_parts a.position (size_with a.entry.gates a.entry.cost) ∙ ap (lane_text a.position) (sym (in_size a.entry c.if-entry-ne0.false)))
