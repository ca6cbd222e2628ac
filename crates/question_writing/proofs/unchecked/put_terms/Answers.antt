-- A turn writes the next term, whose numbers are small, in the part after its predecessors.
use Rattle.std.proofs.Common.{List, ℕ, ◌<◌, length, map, get_or, arith, w32, SFits, to_z-of_z}
use Rattle.std.proofs.lemmas.List.{length-map}
use Rattle.basics.specs.SizeLaws.{size_fits}
use Rattle.basics.specs.ListLaws.{each_get_or}
use Rattle.basics.specs.TableLaws.{get_d_map}
use Rattle.basics.specs.WriteLaws.{tail_length}
use Rattle.network.specs.Record.{no_feed}
use Rattle.question_theory.specs.Text.{terms_text}
use Rattle.question_theory.proofs.TextLaws.{TermDigits}
use Rattle.texts.proofs.PutLaws.{put_none, put_text, put_part}
use Rattle.question_terms.specs.declared.Term.{Term}
use Rattle.question_terms.specs.Terms.{term_in, no_term}
use Rattle.question_writing.specs.Writes.{Printable}
use Rattle.question_writing.specs.TextPartLaws.{first_terms_more, first_terms_room}
use Rattle.question_writing.proofs.unchecked.put_terms.Goals as goal

-- the numbers of a term
within : {room : ℕ} (ts : List Term) (i : ℕ) → Printable (map term_in ts) room → i < length ts → TermDigits 8 3 (term_in (get_or ts i no_term))
within ts i p h = rw (get_d_map term_in ts i no_term no_feed h)
    at (each_get_or (TermDigits 8 3) (map term_in ts) no_feed p.numbers i (omega (arith, length-map ts term_in)))

-- its coefficient fits
fits : {room : ℕ} (ts : List Term) (i : ℕ) → Printable (map term_in ts) room → i < length ts → SFits w32 (get_or ts i no_term).coefficient
fits ts i p h = size_fits w32 (get_or ts i no_term).coefficient (omega (arith, within ts i p h))

pub loop-term-init : goal.loop-term-init
unfolding terms_text
loop-term-init c = put_none _

pub put_term-at-requires : goal.put_term-at-requires
put_term-at-requires c =
    let ts = c.args.terms.now in
    let i = c.loop-term.term-index in
    let small = within ts i c.requires.printable c.loop-term-test.true in
    record {
      variable_bound = small.1;
      coefficient_in_bounds = rw (to_z-of_z (fits ts i c.requires.printable c.loop-term-test.true))
          (omega (
            arith,
            first_terms_room ts i c.loop-term-test.true,
            c.loop-term.invariant.long,
            c.requires.printable.short,
            tail_length c.loop-term.at c.loop-term.out,
          ));
    }

pub loop-term-preserved : goal.loop-term-preserved
loop-term-preserved c =
    let ts = c.args.terms.now in
    let i = c.loop-term.term-index in
    let put = rw (to_z-of_z (fits ts i c.requires.printable c.loop-term-test.true)) at c.put_term-at.ensures in
    let room = first_terms_room ts i c.loop-term-test.true in
    put_text (put_part c.loop-term.invariant (omega (arith, put.long, room, c.loop-term.invariant.long, c.requires.printable.short)) put)
    (first_terms_more ts i c.loop-term-test.true)
