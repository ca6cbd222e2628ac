-- A sound record's counts are within the limits. The header, the gates and the outputs, each put into the part where its predecessor ended, are the
-- file.
use Rattle.std.proofs.Common.{◌≡◌, sym, ap, ◌∙◌, ℕ, ◌+◌, ◌-◌, ◌≤◌, List, ◌++◌, append_assoc, length, length-append, length-drop, take, drop, arith}
use mathlib.Core.Path.{ap₂}
use borrow.Rule.Slice.PartMut.{put_mid}
use Rattle.basics.specs.WriteLaws.{tail_length, write_on}
use Rattle.network.specs.Record.{net_of}
use Rattle.network.specs.SoundLaws.{sized_of, counted_of}
use Rattle.pmn_format.specs.Format.{counted_header, file_bytes}
use Rattle.pmn_writing.specs.Parts.{first_outputs}
use Rattle.pmn_format.proofs.LengthLaws.{counted_header_length}
use Rattle.pmn_writing.specs.PartLaws.{first_outputs_length}
use Rattle.pmn_writer.specs.WritingLaws.{record_gates, file_length, file_parts, first_gates_length}
use Rattle.pmn_writer.specs.WriteAnswerLaws.{write_short, write_whole, written_refused, written_whole}
use Rattle.pmn_writer.proofs.unchecked.write_sound.Goals as goal

pub file_length-length-requires : goal.file_length-length-requires
file_length-length-requires c =
    let n = c.args.network.now in
    record { counted = counted_of n c.requires; outputs_bound = (sized_of n c.requires).few_outputs }

pub returns-then-out-length : goal.returns-then-out-length
returns-then-out-length c =
    let r = c.args.network.now in
    let x₀ = c.args.out.now in
    let n : c.file_length-length.result ≡ length (file_bytes (net_of r)) = c.file_length-length.ensures ∙ sym (file_length r) in
    let w = written_refused r 18 x₀ (write_short r (length x₀) c.requires (omega arith)) in
    record { value = w.0; out_after = w.1 }

pub put_header-start-requires-clause-counts_bound : goal.put_header-start-requires-clause-counts_bound
put_header-start-requires-clause-counts_bound c = let b = sized_of c.args.network.now c.requires in (omega arith, omega arith, omega arith)

pub put_gates-gates-requires-clause-counted : goal.put_gates-gates-requires-clause-counted
put_gates-gates-requires-clause-counted c = counted_of c.args.network.now c.requires

-- a list with another in the place of its end
abbrev joined : ℕ → List ℕ → List ℕ → List ℕ
joined a hs gs = put_mid a (length hs - a) hs gs

-- a part G put after a part H, and room for k bytes more
module _ (x₀ hs gs H G : List ℕ) (a m k : ℕ) (eh : hs ≡ H ++ drop a x₀) (lh : length H ≡ a) (eg : gs ≡ G ++ drop m (take (length hs - a) (drop a hs)))
    (lg : length G ≡ m) (room : a + m + k ≤ length x₀) where
  body_is : joined a hs gs ≡ (H ++ G) ++ drop (a + m) x₀
  body_is = write_on x₀ hs gs H G a m eh lh lg (omega arith) eg

  body_long : length (H ++ G) ≡ a + m
  body_long = length-append H G ∙ ap₂ ◌+◌ lh lg

  left : k ≤ length (take (length (joined a hs gs) - (a + m)) (drop (a + m) (joined a hs gs)))
  left = omega (arith, tail_length (a + m) (joined a hs gs), ap length body_is, length-append (H ++ G) (drop (a + m) x₀), body_long, length-drop (a + m) x₀)

  whole : (os O : List ℕ) → os ≡ O ++ drop k (take (length (joined a hs gs) - (a + m)) (drop (a + m) (joined a hs gs))) → length O ≡ k
      → joined (a + m) (joined a hs gs) os ≡ ((H ++ G) ++ O) ++ drop (a + m + k) x₀
  whole os O eo lo = write_on x₀ (joined a hs gs) os (H ++ G) O (a + m) k body_is body_long lo room eo

pub put_outputs-requires : goal.put_outputs-requires
put_outputs-requires c =
    let r = c.args.network.now in
    let h = c.put_header-start.ensures in
    let g = c.put_gates-gates.ensures in (
      (sized_of r c.requires).few_outputs,
      left c.args.out.now c.put_header-start.new.out c.put_gates-gates.new.out (counted_header r.board r.inputs r.gates r.outputs) (record_gates r)
          c.put_header-start.result c.put_gates-gates.result r.outputs h.out_after (counted_header_length r.board r.inputs r.gates r.outputs ∙ sym h.value) g.out_after
          (first_gates_length r.fanins r.thresholds r.signals r.weights r.gates ∙ sym g.value)
          (omega (arith, h.value, g.value, c.file_length-length.ensures, c.if-out-length.false)),
    )

pub returns : goal.returns
returns c =
    let r = c.args.network.now in
    let x₀ = c.args.out.now in
    let h = c.put_header-start.ensures in
    let g = c.put_gates-gates.ensures in
    let n = c.file_length-length.result in
    let e : c.put_header-start.result + c.put_gates-gates.result + r.outputs ≡ n = omega (arith, h.value, g.value, c.file_length-length.ensures) in
    let el : n ≡ length (file_bytes (net_of r)) = c.file_length-length.ensures ∙ sym (file_length r) in
    let w = written_whole r n x₀ (write_whole r (length x₀) c.requires (omega (arith, el, c.if-out-length.false))) el in
    let H = counted_header r.board r.inputs r.gates r.outputs in
    let O = first_outputs r.drivers r.outputs in
    record {
      value = w.0;
      out_after = whole c.args.out.now c.put_header-start.new.out c.put_gates-gates.new.out (counted_header r.board r.inputs r.gates r.outputs) (record_gates r)
          c.put_header-start.result c.put_gates-gates.result r.outputs h.out_after (counted_header_length r.board r.inputs r.gates r.outputs ∙ sym h.value) g.out_after
          (first_gates_length r.fanins r.thresholds r.signals r.weights r.gates ∙ sym g.value)
          (omega (arith, e, c.if-out-length.false)) c.put_outputs.new.out O c.put_outputs.ensures (first_outputs_length r.drivers r.outputs)
          ∙ ap (λ (k : ℕ). ((H ++ record_gates r) ++ O) ++ drop k x₀) e
          ∙ ap (λ (l : List ℕ). l ++ drop n x₀) (append_assoc H (record_gates r) O ∙ sym (file_parts r))
          ∙ w.1;
    }
