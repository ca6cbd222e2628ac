-- What is written is read back: the file of a sound network is read as that network, and one that only breaks a margin is refused with 24.
-- Assumes nothing.
use Rattle.std.specs.Prelude.{ℕ, suc, ◌<◌, ◌≤◌, ◌≡◌, refl, List, [], ◌∷◌, ◌++◌, Bool, true, false, ◌&&◌, length, T, ltb, leb, ℤ}
use Rattle.std.proofs.Common.{sym, ap, ◌∙◌, append_assoc, append-nil, le→leb}
use Rattle.basics.specs.Word.{int_bytes}
use Rattle.basics.specs.Lists.{all, between, Each}
use Rattle.basics.specs.TestLaws.{is_true, of_between}
use Rattle.network.specs.Threshold.{Feed, Gate, Net}
use Rattle.network.specs.Limits.{in_scale, weight_ok, signals_of, board_ok, keeps, gate_signal}
use Rattle.network.specs.declared.Board.{Board}
use Rattle.network.specs.Sound.{Rise, GateOk, GatesOk, HasSignal, Has, Sound}
use Rattle.network.specs.LimitLaws.{of_signal}
use Rattle.pmn_format.specs.Format.{feed_bytes, feeds_bytes, gate_bytes, gates_bytes, board_bytes, file_bytes, Read, done, check}
use Rattle.pmn_format.specs.Format.{and_then, int_then, parse_feed, parse_feeds, parse_gate, parse_gates, parse_outputs, net_read, at_end}
use Rattle.pmn_format.specs.Format.{parse_counts, parse_version, parse_file}
use Rattle.pmn_format.proofs.AtLaws.{gate_kept}
use Rattle.pmn_format.proofs.BoardLaws.{board_read}
use Rattle.pmn_format.proofs.LengthLaws.{file_long}
use Rattle.pmn_format.proofs.ScaleLaws.{scale_fits_lem, weight_scale, scaled_threshold, scaled_weights}
use Rattle.pmn_format.proofs.StepLaws.{signal_test, check_true, int_read}

-- ---- feeds, gates and outputs after what was read before them, acc
-- each part's bytes, with l after them, are read as the part
feed_read : (own low : ℕ) (f : Feed) (l : List ℕ) → low ≤ f.signal → f.signal < own → T (weight_ok f) → parse_feed own low (feed_bytes f ++ l) ≡ done f l
feed_read own low f l h k t =
    let fed : ℤ → Feed = λ w. record { signal = f.signal; weight = w } in
    let r : ℤ → List ℕ → Read Feed = λ w l₂. check (weight_ok (fed w)) 6 (done (fed w) l₂) in
    check_true (leb low f.signal && ltb f.signal own) 5 _ (signal_test low own f.signal h k)
    ∙ int_read f.weight l r (scale_fits_lem f.weight (weight_scale f t))
    ∙ check_true (weight_ok f) 6 _ (is_true (weight_ok f) t)

feeds_read : (own low : ℕ) (acc fs : List Feed) (l : List ℕ) → Rise low own (signals_of fs) → Each (λ f. T (weight_ok f)) fs
    → parse_feeds own (length fs) low acc (feeds_bytes fs ++ l) ≡ done (acc ++ fs) l
unfolding signals_of
feeds_read own low acc [] l h t = ap (λ (a : List Feed). done a l) (sym (append-nil acc))
feeds_read own low acc (f ∷ fs) l h t =
    ap (λ (r : Read Feed). and_then r (λ f l₁. parse_feeds own (length fs) (suc f.signal) (acc ++ (f ∷ [])) l₁))
    (feed_read own low f (feeds_bytes fs ++ l) h.0 h.1 t.0)
    ∙ feeds_read own (suc f.signal) (acc ++ (f ∷ [])) fs l h.2 t.1
    ∙ ap (λ (a : List Feed). done a l) (append_assoc acc (f ∷ []) fs)

gate_read : (b : Board) (own : ℕ) (g : Gate) (l : List ℕ) → GateOk own g → parse_gate b own (gate_bytes g ++ l) ≡ check (keeps b g) 24 (done g l)
gate_read b own g l o =
    let s = scaled_threshold g o.scaled in
    let k : ℤ → List ℕ → Read Gate = λ t l₂. check (in_scale t) 6 (and_then (parse_feeds own (length g.feeds) 0 [] l₂) (gate_kept b t)) in
    check_true (leb (length g.feeds) 16) 7 _ (is_true (leb (length g.feeds) 16) (le→leb (length g.feeds) 16 o.few))
    ∙ ap (λ (x : List ℕ). int_then x k) (append_assoc (int_bytes g.threshold) (feeds_bytes g.feeds) l)
    ∙ int_read g.threshold (feeds_bytes g.feeds ++ l) k (scale_fits_lem g.threshold s)
    ∙ check_true (in_scale g.threshold) 6 _ (is_true (in_scale g.threshold) s)
    ∙ ap (λ (r : Read (List Feed)). and_then r (gate_kept b g.threshold))
    (feeds_read own 0 [] g.feeds l o.rise (scaled_weights g o.scaled))

-- a test for each gate is one test for all
two_checks : {A : Type 0} (x y : Bool) (r : Read A) → check x 24 (check y 24 r) ≡ check (x && y) 24 r
two_checks true y r = refl
two_checks false y r = refl

then_check : {A B : Type 0} (x : Bool) (a : A) (l : List ℕ) (f : A → List ℕ → Read B) → and_then (check x 24 (done a l)) f ≡ check x 24 (f a l)
then_check true a l f = refl
then_check false a l f = refl

gates_read : (b : Board) (own : ℕ) (acc gs : List Gate) (l : List ℕ) → GatesOk own gs
    → parse_gates b own (length gs) acc (gates_bytes gs ++ l) ≡ check (all (keeps b) gs) 24 (done (acc ++ gs) l)
unfolding all
gates_read b own acc [] l h = ap (λ (a : List Gate). done a l) (sym (append-nil acc))
gates_read b own acc (g ∷ gs) l h =
    ap (λ (m : List ℕ). and_then (parse_gate b own m) (λ x l₁. parse_gates b (suc own) (length gs) (acc ++ (x ∷ [])) l₁))
    (append_assoc (gate_bytes g) (gates_bytes gs) l)
    ∙ ap (λ (r : Read Gate). and_then r (λ x l₁. parse_gates b (suc own) (length gs) (acc ++ (x ∷ [])) l₁))
    (gate_read b own g (gates_bytes gs ++ l) h.0)
    ∙ then_check (keeps b g) g (gates_bytes gs ++ l) (λ x l₁. parse_gates b (suc own) (length gs) (acc ++ (x ∷ [])) l₁)
    ∙ ap (check (keeps b g) 24)
    (gates_read b (suc own) (acc ++ (g ∷ [])) gs l h.1
    ∙ ap (λ (x : List Gate). check (all (keeps b) gs) 24 (done x l)) (append_assoc acc (g ∷ []) gs))
    ∙ two_checks (keeps b g) (all (keeps b) gs) (done (acc ++ (g ∷ gs)) l)

outputs_read : (inputs gates : ℕ) (acc ss l : List ℕ) → Each (HasSignal inputs gates) ss
    → parse_outputs inputs gates (length ss) acc (ss ++ l) ≡ done (acc ++ ss) l
outputs_read inputs gates acc [] l h = ap (λ (a : List ℕ). done a l) (sym (append-nil acc))
outputs_read inputs gates acc (s ∷ ss) l h =
    check_true (gate_signal inputs gates s) 8 _ (is_true (gate_signal inputs gates s) (of_signal inputs gates s h.0))
    ∙ outputs_read inputs gates (acc ++ (s ∷ [])) ss l h.1
    ∙ ap (λ (x : List ℕ). done x l) (append_assoc acc (s ∷ []) ss)

-- a network that is sound but for its margins, as facts
pub record SoundOtherwise (N : Net) : Type 0 where
  pub board_ok_lem : T (board_ok N.board)
  pub few_inputs : (1 ≤ N.inputs) × (N.inputs ≤ 40)
  pub few_gates : (1 ≤ length N.gates) × (length N.gates ≤ 128)
  pub few_outputs : (1 ≤ length N.outputs) × (length N.outputs ≤ 16)
  pub all_gates : GatesOk N.inputs N.gates
  pub all_outputs : Each (Has N) N.outputs

-- what the file of such a network is read as: the network, or 24 for a broken margin
abbrev read_back : Net → Read Net
read_back N = check (all (keeps N.board) N.gates) 24 (done N [])

-- the counts, the gates and the outputs
counts_read : (N : Net) → SoundOtherwise N
    → parse_counts N.board (N.inputs ∷ length N.gates ∷ length N.outputs ∷ (gates_bytes N.gates ++ N.outputs)) ≡ read_back N
counts_read N s =
    let b = N.board in
    let i = N.inputs in
    let g = length N.gates in
    let o = length N.outputs in
    check_true (between 1 40 i) 3 _ (is_true (between 1 40 i) (of_between 1 40 i s.few_inputs))
    ∙ check_true (between 1 128 g) 3 _ (is_true (between 1 128 g) (of_between 1 128 g s.few_gates))
    ∙ check_true (between 1 16 o) 3 _ (is_true (between 1 16 o) (of_between 1 16 o s.few_outputs))
    ∙ ap (λ (r : Read (List Gate)). and_then r (λ gs l₁. and_then (parse_outputs i g o [] l₁) (λ os l₂. at_end (net_read b i gs os) l₂)))
    (gates_read b i [] N.gates N.outputs s.all_gates)
    ∙ then_check (all (keeps b) N.gates) N.gates N.outputs (λ gs l₁. and_then (parse_outputs i g o [] l₁) (λ os l₂. at_end (net_read b i gs os) l₂))
    ∙ ap (check (all (keeps b) N.gates) 24)
    (ap (λ (k : List ℕ). and_then (parse_outputs i g o [] k) (λ os l₂. at_end (net_read b i N.gates os) l₂)) (sym (append-nil N.outputs))
    ∙ ap (λ (r : Read (List ℕ)). and_then r (λ os l₂. at_end (net_read b i N.gates os) l₂))
    (outputs_read i g [] N.outputs [] s.all_outputs))

-- what is written is read back, or its first broken margin is refused
pub file_tested : (N : Net) → SoundOtherwise N → parse_file (file_bytes N) ≡ read_back N
file_tested N s =
    let counts = N.inputs ∷ length N.gates ∷ length N.outputs ∷ [] in
    let body = gates_bytes N.gates ++ N.outputs in
    check_true (leb 8 (length (file_bytes N))) 1 (parse_version ((board_bytes N.board ++ counts) ++ body))
    (is_true (leb 8 (length (file_bytes N))) (le→leb 8 (length (file_bytes N)) (file_long N)))
    ∙ ap parse_version (append_assoc (board_bytes N.board) counts body)
    ∙ board_read N.board (counts ++ body) s.board_ok_lem
    ∙ counts_read N s

-- what is written of a sound network is read back
pub file_read : (N : Net) → Sound N → parse_file (file_bytes N) ≡ done N []
file_read N s =
    file_tested N (record {
      board_ok_lem = s.board_ok_lem;
      few_inputs = s.few_inputs;
      few_gates = s.few_gates;
      few_outputs = s.few_outputs;
      all_gates = s.all_gates;
      all_outputs = s.all_outputs;
    })
    ∙ check_true (all (keeps N.board) N.gates) 24 (done N []) (is_true (all (keeps N.board) N.gates) s.all_keep)
