-- The gates passed over are refused, so that the first gate with all its pairs is the answer; what is remembered stays true. Assumes nothing.
use Rattle.std.proofs.Common.{arith, sym, ◌∙◌}
use Rattle.basics.specs.TestLaws.{T_is}
use Rattle.network.specs.Record.{net_of, sound_record}
use Rattle.network.specs.SoundLaws.{sized_of, sound_board}
use Rattle.fold_theory.specs.Sweep.{readers}
use Rattle.fold_readers.specs.ArrayLaws.{lent_of, lent_counted}
use Rattle.fold_sweep.specs.MemoryLaws.{remembered_at, remembered_more, refused_of, remembered_after}
use Rattle.fold_sweep.proofs.TurnLaws.{reader_refused, lower_more, sweep_none, own_gate, crowded_refused, output_refused, taken}
use Rattle.fold_sweep.proofs.TurnLaws.{chosen_some, after_some, chosen_none, after_none}
use Rattle.fold_sweep.proofs.unchecked.lowest_collapsible.Goals as goal
use Rattle.fold_sweep.proofs.unchecked.lowest_collapsible.Goals.{then-b-count_readers-via-then-b-count_readers, then-b-count_readers-via-else-b-count_readers+then-is_output}

-- ---- a gate with a known refuser
pub bounds-memory-g : goal.bounds-memory-g
bounds-memory-g c = let z = sized_of c.args.network.now c.requires.0 in omega (arith, z.few_gates)

pub loop-g-preserved-then-memory-g-lt128 : goal.loop-g-preserved-then-memory-g-lt128
loop-g-preserved-then-memory-g-lt128 c =
    let loop = c.loop-g in
    let known = remembered_at c.args.network.now loop.invariant.known loop.g c.loop-g-test.true c.if-memory-g-lt128.true in record {
      lower = lower_more _ _ _ loop.g loop.invariant.lower (reader_refused _ _ _ _ known);
      known = loop.invariant.known;
    }

-- ---- a gate with too many readers, or an output
pub overflow_add-u : goal.overflow_add-u
overflow_add-u c = let z = sized_of c.args.network.now c.requires.0 in omega (arith, z.few_inputs, z.few_gates)

pub count_readers-requires : goal.count_readers-requires
count_readers-requires c = lent_counted (lent_of c.args.network.now (T_is (sound_record c.args.network.now) c.requires.0))

pub is_output-requires : goal.is_output-requires
is_output-requires c = (sized_of c.args.network.now c.requires.0).few_outputs

pub loop-g-preserved-then-b-count_readers : goal.loop-g-preserved-then-b-count_readers
unfolding readers net_of
loop-g-preserved-then-b-count_readers c =
    let loop = c.loop-g in
    let r = c.args.network.now in record {
      lower = lower_more _ _ _ loop.g loop.invariant.lower (elim c.then-b-count_readers.branch [
        | then-b-count_readers-via-then-b-count_readers w ↦
            crowded_refused r c.args.b loop.g c.requires.0 c.loop-g-test.true (omega (arith, w.if-b-count_readers.true, c.count_readers.ensures))
        | then-b-count_readers-via-else-b-count_readers+then-is_output w ↦
            output_refused r c.args.b loop.g c.requires.0 c.loop-g-test.true (sym w.is_output.ensures ∙ w.if-is_output.true)
      ]);
      known = loop.invariant.known;
    }

-- ---- a gate that is tried
pub hinted_pairs-requires : goal.hinted_pairs-requires
hinted_pairs-requires c =
    let r = c.args.network.now in
    (lent_of r (T_is (sound_record r) c.requires.0), (omega arith, omega arith), sound_board r c.requires.0)

pub returns-in-Ok : goal.returns-in-Ok
unfolding readers net_of
returns-in-Ok c =
    let r = c.args.network.now in
    let loop = c.loop-g in
    let next = taken r c.args.b loop.g c.requires.0 c.loop-g-test.true (omega (arith, c.if-b-count_readers.false, c.count_readers.ensures))
    (sym c.is_output.ensures ∙ c.if-is_output.false) c.in-Ok.pairs (c.hinted_pairs.ensures.found _ c.in-Ok.is) loop.invariant.lower in
    (chosen_some r c.args.b _ next, after_some r c.args.b _ (remembered_after r c.args.b loop.g c.in-Ok.pairs next loop.invariant.known c.collapse.ensures.refusers))

pub overflow_cast-last : goal.overflow_cast-last
overflow_cast-last c =
    let z = sized_of c.args.network.now c.requires.0 in
    omega (arith, (c.hinted_pairs.ensures.refuses _ c.in-Err.is).within, z.few_gates)

pub loop-g-preserved : goal.loop-g-preserved
loop-g-preserved c =
    let r = c.args.network.now in
    let loop = c.loop-g in
    let refuser = refused_of r _ (own_gate r c.args.b loop.g c.requires.0 c.loop-g-test.true) _ (c.hinted_pairs.ensures.refuses _ c.in-Err.is) in
    let z = sized_of r c.requires.0 in record {
      lower = lower_more _ _ _ loop.g loop.invariant.lower (reader_refused _ _ _ _ refuser);
      known = remembered_more r loop.invariant.known loop.g _ (omega (arith, z.few_gates)) refuser;
    }

-- ---- no gate is left
pub returns : goal.returns
returns c =
    let r = c.args.network.now in
    let loop = c.loop-g in
    (chosen_none r c.args.b (sweep_none r c.args.b loop.g (omega arith) (omega arith) loop.invariant.lower), after_none r c.args.b _)
