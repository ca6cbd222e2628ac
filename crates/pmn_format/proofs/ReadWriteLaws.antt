-- What is accepted is written back: a file that is read is the file of the network read, which is sound. Assumes nothing.
use Rattle.std.specs.Prelude.{ℕ, zero, suc, ◌<◌, ◌≤◌, ◌≡◌, refl, List, [], ◌∷◌, ◌++◌, ◌&&◌, length, T, ltb, leb, eqb, ℤ}
use Rattle.std.proofs.Common.{arith, sym, ap, ◌∙◌, subst, append_assoc, append-nil, leb→le, eqb→eq}
use Rattle.basics.specs.Word.{int_bytes}
use Rattle.basics.specs.Lists.{all, between, Each}
use Rattle.basics.specs.TestLaws.{T_and, and_T, between_of}
use Rattle.network.specs.Threshold.{Feed, Gate, Net}
use Rattle.network.specs.Limits.{in_scale, weight_ok, signals_of, board_ok, keeps, gate_signal}
use Rattle.network.specs.declared.Board.{Board}
use Rattle.network.specs.Sound.{Rise, GateOk, GatesOk, HasSignal, Sound}
use Rattle.network.specs.LimitLaws.{signal_of_lem}
use Rattle.pmn_format.specs.Format.{feed_bytes, feeds_bytes, gate_bytes, gates_bytes, board_bytes, file_bytes, Read, done, check, and_then, byte_or}
use Rattle.pmn_format.specs.Format.{int_then, parse_feed, parse_feeds, parse_gate, parse_gates, parse_outputs, net_read, at_end, parse_body}
use Rattle.pmn_format.specs.Format.{parse_counts, parse_version, parse_file, Bytes}
use Rattle.pmn_format.proofs.AtLaws.{gate_kept}
use Rattle.pmn_format.proofs.BoardLaws.{BoardOf, board_of}
use Rattle.pmn_format.proofs.ScaleLaws.{of_scales}
use Rattle.pmn_format.proofs.StepLaws.{test_signal, refused≢done, done_inj, true_of, then_of, byte_of, int_of}

-- ---- feeds
-- the feed's bytes, its order and its weight
pub record FeedOf (own low : ℕ) (l : List ℕ) (f : Feed) (m : List ℕ) : Type 0 where
  pub list : l ≡ feed_bytes f ++ m
  pub order : (low ≤ f.signal) × (f.signal < own)
  pub scale : T (weight_ok f)
  pub bytes : Bytes m

feed_of : (own low : ℕ) (l : List ℕ) (f : Feed) (m : List ℕ) → Bytes l → parse_feed own low l ≡ done f m → FeedOf own low l f m
feed_of own low l f m bs h =
    let k₂ : ℕ → ℤ → List ℕ → Read Feed = λ s w l₂. check (weight_ok (record { signal = s; weight = w })) 6 (done (record { signal = s; weight = w }) l₂) in
    let p = byte_of 4 l (λ s l₁. check (leb low s && ltb s own) 5 (int_then l₁ (k₂ s))) f m bs h in
    let s = p.byte in
    let t = true_of (leb low s && ltb s own) 5 (int_then p.rest (k₂ s)) f m p.then in
    let q = int_of p.rest (k₂ s) f m p.bytes t.1 in
    let x : Feed = record { signal = s; weight = q.int } in
    let u = true_of (weight_ok x) 6 (done x q.rest) f m q.then in
    let e = done_inj u.1 in
    let z : FeedOf own low l x q.rest = record {
      list = p.list ∙ ap (λ (x : List ℕ). s ∷ x) q.list;
      order = test_signal low own s t.0;
      scale = u.0;
      bytes = q.bytes;
    } in
    subst (λ (x : List ℕ). FeedOf own low l f x) e.1 (subst (λ (x : Feed). FeedOf own low l x q.rest) e.0 z)

-- n feeds more than acc, the next signal being low at least
pub record FeedsOf (own low n : ℕ) (acc : List Feed) (l : List ℕ) (all : List Feed) (m : List ℕ) : Type 0 where
  pub more : List Feed
  pub all_is : all ≡ acc ++ more
  pub count : length more ≡ n
  pub list : l ≡ feeds_bytes more ++ m
  pub rise : Rise low own (signals_of more)
  pub scale : Each (λ f. T (weight_ok f)) more
  pub bytes : Bytes m

pub feeds_of_lem : (own n low : ℕ) (acc : List Feed) (l : List ℕ) (all : List Feed) (m : List ℕ)
    → Bytes l → parse_feeds own n low acc l ≡ done all m → FeedsOf own low n acc l all m
unfolding signals_of
feeds_of_lem own zero low acc l all m bs h =
    let e = done_inj h in
    record { more = []; all_is = sym e.0 ∙ sym (append-nil acc); count = refl; list = e.1; rise = tt; scale = tt; bytes = subst Bytes e.1 bs }
feeds_of_lem own (suc n) low acc l all m bs h =
    let u = then_of (parse_feed own low l) (λ f l₁. parse_feeds own n (suc f.signal) (acc ++ (f ∷ [])) l₁) all m h in
    let f = u.value in
    let p = feed_of own low l f u.rest bs u.first in
    let r = feeds_of_lem own n (suc f.signal) (acc ++ (f ∷ [])) u.rest all m p.bytes u.second in
    record {
      more = f ∷ r.more;
      all_is = r.all_is ∙ append_assoc acc (f ∷ []) r.more;
      count = ap suc r.count;
      list = p.list ∙ ap (λ (x : List ℕ). feed_bytes f ++ x) r.list ∙ sym (append_assoc (feed_bytes f) (feeds_bytes r.more) m);
      rise = (p.order.0, p.order.1, r.rise);
      scale = (p.scale, r.scale);
      bytes = r.bytes;
    }

-- ---- gates
-- the gate's bytes, that it is within the limits, and that it keeps the margins
pub record GateOf (b : Board) (own : ℕ) (l : List ℕ) (g : Gate) (m : List ℕ) : Type 0 where
  pub list : l ≡ gate_bytes g ++ m
  pub ok : GateOk own g
  pub kept : T (keeps b g)
  pub bytes : Bytes m

-- the gate of its fields
gate_made : (b : Board) (own n : ℕ) (t : ℤ) (l l₁ l₂ m : List ℕ) (fs : List Feed) → l ≡ n ∷ l₁ → T (leb n 16) → l₁ ≡ int_bytes t ++ l₂ → T (in_scale t)
    → FeedsOf own 0 n [] l₂ fs m → T (keeps b (record { feeds = fs; threshold = t })) → GateOf b own l (record { feeds = fs; threshold = t }) m
gate_made b own n t l l₁ l₂ m fs e₀ h₀ e₁ h₁ r k =
    let e : fs ≡ r.more = r.all_is in
    let c : length fs ≡ n = ap length e ∙ r.count in
    record {
      list = e₀
          ∙ ap (λ (x : List ℕ). n ∷ x) (e₁
          ∙ ap (λ (x : List ℕ). int_bytes t ++ x) (r.list ∙ ap (λ (x : List Feed). feeds_bytes x ++ m) (sym e))
          ∙ sym (append_assoc (int_bytes t) (feeds_bytes fs) m))
          ∙ ap (λ (k : ℕ). k ∷ ((int_bytes t ++ feeds_bytes fs) ++ m)) (sym c);
      ok = record {
        few = let h = leb→le n 16 h₀ in omega arith;
        rise = subst (λ (x : List Feed). Rise 0 own (signals_of x)) (sym e) r.rise;
        scaled = of_scales (record { feeds = fs; threshold = t }) h₁ (subst (Each (λ f. T (weight_ok f))) (sym e) r.scale);
      };
      kept = k;
      bytes = r.bytes;
    }

gate_of_lem : (b : Board) (own : ℕ) (l : List ℕ) (g : Gate) (m : List ℕ) → Bytes l → parse_gate b own l ≡ done g m → GateOf b own l g m
gate_of_lem b own l g m bs h =
    let k₂ : ℕ → ℤ → List ℕ → Read Gate = λ n t l₂. check (in_scale t) 6 (and_then (parse_feeds own n 0 [] l₂) (gate_kept b t)) in
    let p = byte_of 4 l (λ n l₁. check (leb n 16) 7 (int_then l₁ (k₂ n))) g m bs h in
    let n = p.byte in
    let a = true_of (leb n 16) 7 (int_then p.rest (k₂ n)) g m p.then in
    let q = int_of p.rest (k₂ n) g m p.bytes a.1 in
    let t = q.int in
    let c = true_of (in_scale t) 6 (and_then (parse_feeds own n 0 [] q.rest) (gate_kept b t)) g m q.then in
    let u = then_of (parse_feeds own n 0 [] q.rest) (gate_kept b t) g m c.1 in
    let x : Gate = record { feeds = u.value; threshold = t } in
    let d = true_of (keeps b x) 24 (done x u.rest) g m u.second in
    let e = done_inj d.1 in
    let r = feeds_of_lem own n 0 [] q.rest u.value u.rest q.bytes u.first in
    let z = gate_made b own n t l p.rest q.rest u.rest u.value p.list a.0 q.list c.0 r d.0 in
    subst (λ (y : List ℕ). GateOf b own l g y) e.1 (subst (λ (y : Gate). GateOf b own l y u.rest) e.0 z)

-- n gates more than acc
pub record GatesOf (b : Board) (own n : ℕ) (acc : List Gate) (l : List ℕ) (found : List Gate) (m : List ℕ) : Type 0 where
  pub more : List Gate
  pub all_is : found ≡ acc ++ more
  pub count : length more ≡ n
  pub list : l ≡ gates_bytes more ++ m
  pub ok : GatesOk own more
  pub kept : T (all (keeps b) more)
  pub bytes : Bytes m

parse_gates_of : (b : Board) (own n : ℕ) (acc : List Gate) (l : List ℕ) (found : List Gate) (m : List ℕ) → Bytes l → parse_gates b own n acc l ≡ done found m
    → GatesOf b own n acc l found m
unfolding all
parse_gates_of b own zero acc l found m bs h =
    let e = done_inj h in
    record { more = []; all_is = sym e.0 ∙ sym (append-nil acc); count = refl; list = e.1; ok = tt; kept = tt; bytes = subst Bytes e.1 bs }
parse_gates_of b own (suc n) acc l found m bs h =
    let u = then_of (parse_gate b own l) (λ g l₁. parse_gates b (suc own) n (acc ++ (g ∷ [])) l₁) found m h in
    let g = u.value in
    let p = gate_of_lem b own l g u.rest bs u.first in
    let r = parse_gates_of b (suc own) n (acc ++ (g ∷ [])) u.rest found m p.bytes u.second in
    record {
      more = g ∷ r.more;
      all_is = r.all_is ∙ append_assoc acc (g ∷ []) r.more;
      count = ap suc r.count;
      list = p.list ∙ ap (λ (x : List ℕ). gate_bytes g ++ x) r.list ∙ sym (append_assoc (gate_bytes g) (gates_bytes r.more) m);
      ok = (p.ok, r.ok);
      kept = and_T (keeps b g) (all (keeps b) r.more) p.kept r.kept;
      bytes = r.bytes;
    }

-- ---- outputs
-- n outputs more than acc
pub record OutputsOf (inputs gates n : ℕ) (acc l all m : List ℕ) : Type 0 where
  pub more : List ℕ
  pub all_is : all ≡ acc ++ more
  pub count : length more ≡ n
  pub list : l ≡ more ++ m
  pub ok : Each (HasSignal inputs gates) more

outputs_of : (inputs gates n : ℕ) (acc l all m : List ℕ) → Bytes l → parse_outputs inputs gates n acc l ≡ done all m → OutputsOf inputs gates n acc l all m
outputs_of inputs gates zero acc l all m bs h =
    let e = done_inj h in
    record { more = []; all_is = sym e.0 ∙ sym (append-nil acc); count = refl; list = e.1; ok = tt }
outputs_of inputs gates (suc n) acc l all m bs h =
    let p = byte_of 4 l (λ s l₁. check (gate_signal inputs gates s) 8 (parse_outputs inputs gates n (acc ++ (s ∷ [])) l₁)) all m bs h in
    let s = p.byte in
    let t = true_of (gate_signal inputs gates s) 8 (parse_outputs inputs gates n (acc ++ (s ∷ [])) p.rest) all m p.then in
    let r = outputs_of inputs gates n (acc ++ (s ∷ [])) p.rest all m p.bytes t.1 in
    record {
      more = s ∷ r.more;
      all_is = r.all_is ∙ append_assoc acc (s ∷ []) r.more;
      count = ap suc r.count;
      list = p.list ∙ ap (λ (x : List ℕ). s ∷ x) r.list;
      ok = (signal_of_lem inputs gates s t.0, r.ok);
    }

-- ---- the whole file
-- nothing follows the last output
end_of : (x : Net) (l : List ℕ) (N : Net) (m : List ℕ) → at_end x l ≡ done N m → (x ≡ N) × (l ≡ []) × (m ≡ [])
end_of x [] N m h = (cc, refl, cc)
end_of x (b ∷ l) N m h = refused≢done h

-- the gates and the outputs of a network with this board and these counts
record BodyOf (b : Board) (i g o : ℕ) (l : List ℕ) (N : Net) (m : List ℕ) : Type 0 where
  board_is : N.board ≡ b
  inputs_is : N.inputs ≡ i
  gates_count : length N.gates ≡ g
  outputs_count : length N.outputs ≡ o
  list : l ≡ gates_bytes N.gates ++ N.outputs
  gates_ok_lem : GatesOk i N.gates
  gates_kept : T (all (keeps b) N.gates)
  outputs_ok_lem : Each (HasSignal i g) N.outputs
  ends : m ≡ []

body_made : (b : Board) (i g o : ℕ) (l : List ℕ) (gs : List Gate) (l₁ os l₂ m : List ℕ) → GatesOf b i g [] l gs l₁ → OutputsOf i g o [] l₁ os l₂
    → l₂ ≡ [] → m ≡ [] → BodyOf b i g o l (net_read b i gs os) m
body_made b i g o l gs l₁ os l₂ m p q e f =
    let eg : gs ≡ p.more = p.all_is in
    let eo : os ≡ q.more = q.all_is in
    record {
      board_is = refl;
      inputs_is = refl;
      gates_count = ap length eg ∙ p.count;
      outputs_count = ap length eo ∙ q.count;
      list = p.list ∙ ap (λ (x : List Gate). gates_bytes x ++ l₁) (sym eg)
          ∙ ap (λ (x : List ℕ). gates_bytes gs ++ x) (q.list ∙ ap (λ (x : List ℕ). q.more ++ x) e ∙ append-nil q.more ∙ sym eo);
      gates_ok_lem = subst (GatesOk i) (sym eg) p.ok;
      gates_kept = subst (λ (x : List Gate). T (all (keeps b) x)) (sym eg) p.kept;
      outputs_ok_lem = subst (Each (HasSignal i g)) (sym eo) q.ok;
      ends = f;
    }

body_of : (b : Board) (i g o : ℕ) (l : List ℕ) (N : Net) (m : List ℕ) → Bytes l → parse_body b i g o l ≡ done N m → BodyOf b i g o l N m
body_of b i g o l N m bs h =
    let k₂ : List Gate → List ℕ → List ℕ → Read Net = λ gs os l₂. at_end (net_read b i gs os) l₂ in
    let k₁ : List Gate → List ℕ → Read Net = λ gs l₁. and_then (parse_outputs i g o [] l₁) (k₂ gs) in
    let u = then_of (parse_gates b i g [] l) k₁ N m h in
    let p = parse_gates_of b i g [] l u.value u.rest bs u.first in
    let v = then_of (parse_outputs i g o [] u.rest) (k₂ u.value) N m u.second in
    let q = outputs_of i g o [] u.rest v.value v.rest p.bytes v.first in
    let e = end_of (net_read b i u.value v.value) v.rest N m v.second in
    subst (λ (x : Net). BodyOf b i g o l x m) e.0 (body_made b i g o l u.value u.rest v.value v.rest m p q e.1 e.2)

-- l is the counts, the gates and the outputs of N, which is sound where the board is, and nothing follows them
record CountsOf (b : Board) (l : List ℕ) (N : Net) (m : List ℕ) : Type 0 where
  board_is : N.board ≡ b
  list : l ≡ N.inputs ∷ length N.gates ∷ length N.outputs ∷ (gates_bytes N.gates ++ N.outputs)
  sound : T (board_ok b) → Sound N
  ends : m ≡ []

-- the counts and the body are the network's
counts_made : (b : Board) (i g o : ℕ) (l : List ℕ) (N : Net) (m : List ℕ) → T (between 1 40 i) → T (between 1 128 g) → T (between 1 16 o)
    → BodyOf b i g o l N m → CountsOf b (i ∷ g ∷ o ∷ l) N m
counts_made b i g o l N m hi hg ho r =
    let eb = r.board_is in
    let ei = r.inputs_is in
    let eg = r.gates_count in
    let eo = r.outputs_count in
    let el = r.list in
    let ri = between_of 1 40 i hi in
    let rg = between_of 1 128 g hg in
    let ro = between_of 1 16 o ho in
    record {
      board_is = eb;
      list = cc;
      sound = λ t. record {
        board_ok_lem = subst (λ (x : Board). T (board_ok x)) (sym eb) t;
        few_inputs = subst (λ n. (1 ≤ n) × (n ≤ 40)) (sym ei) ri;
        few_gates = subst (λ n. (1 ≤ n) × (n ≤ 128)) (sym eg) rg;
        few_outputs = subst (λ n. (1 ≤ n) × (n ≤ 16)) (sym eo) ro;
        all_gates = subst (λ n. GatesOk n N.gates) (sym ei) r.gates_ok_lem;
        all_keep = subst (λ (x : Board). T (all (keeps x) N.gates)) (sym eb) r.gates_kept;
        all_outputs = subst (λ n. Each (HasSignal n (length N.gates)) N.outputs) (sym ei)
            (subst (λ n. Each (HasSignal i n) N.outputs) (sym eg) r.outputs_ok_lem);
      };
      ends = r.ends;
    }

counts_of : (b : Board) (l : List ℕ) (N : Net) (m : List ℕ) → Bytes l → parse_counts b l ≡ done N m → CountsOf b l N m
counts_of b l N m bs h =
    let r₃ : ℕ → ℕ → ℕ → List ℕ → Read Net = λ i g o l₃. check (between 1 16 o) 3 (parse_body b i g o l₃) in
    let r₂ : ℕ → ℕ → List ℕ → Read Net = λ i g l₂. check (between 1 128 g) 3 (byte_or 4 l₂ (r₃ i g)) in
    let p = byte_of 4 l (λ i l₁. check (between 1 40 i) 3 (byte_or 4 l₁ (r₂ i))) N m bs h in
    let i = p.byte in
    let hi = true_of (between 1 40 i) 3 (byte_or 4 p.rest (r₂ i)) N m p.then in
    let q = byte_of 4 p.rest (r₂ i) N m p.bytes hi.1 in
    let g = q.byte in
    let hg = true_of (between 1 128 g) 3 (byte_or 4 q.rest (r₃ i g)) N m q.then in
    let r = byte_of 4 q.rest (r₃ i g) N m q.bytes hg.1 in
    let o = r.byte in
    let ho = true_of (between 1 16 o) 3 (parse_body b i g o r.rest) N m r.then in
    let e : l ≡ i ∷ g ∷ o ∷ r.rest = p.list ∙ ap (λ (x : List ℕ). i ∷ x) (q.list ∙ ap (λ (x : List ℕ). g ∷ x) r.list) in
    subst (λ (x : List ℕ). CountsOf b x N m) (sym e)
    (counts_made b i g o r.rest N m hi.0 hg.0 ho.0 (body_of b i g o r.rest N m r.bytes ho.1))

-- s is the file of N, which is sound, and nothing follows it
pub record IsFileOf (s : List ℕ) (N : Net) (m : List ℕ) : Type 0 where
  pub list : s ≡ file_bytes N
  pub sound : Sound N
  pub ends : m ≡ []

-- the mark, the board and the counts are the network's
file_made : (p₀ p₁ p₂ : ℕ) (l : List ℕ) (N : Net) (m : List ℕ) → T (eqb p₀ 80 && (eqb p₁ 77 && eqb p₂ 78)) → (b : BoardOf l N m)
    → CountsOf b.board b.rest N m → IsFileOf (p₀ ∷ p₁ ∷ p₂ ∷ l) N m
file_made p₀ p₁ p₂ l N m hp b c =
    let hp' = T_and (eqb p₀ 80) (eqb p₁ 77 && eqb p₂ 78) hp in
    let hq' = T_and (eqb p₁ 77) (eqb p₂ 78) hp'.1 in
    let e₀ = eqb→eq p₀ 80 hp'.0 in
    let e₁ = eqb→eq p₁ 77 hq'.0 in
    let e₂ = eqb→eq p₂ 78 hq'.1 in
    let counts = N.inputs ∷ length N.gates ∷ length N.outputs ∷ [] in
    let body = gates_bytes N.gates ++ N.outputs in
    let e : l ≡ (board_bytes N.board ++ counts) ++ body =
    b.list ∙ ap (λ (x : List ℕ). board_bytes b.board ++ x) c.list ∙ ap (λ (x : Board). board_bytes x ++ (counts ++ body)) (sym c.board_is)
    ∙ sym (append_assoc (board_bytes N.board) counts body) in
    record { list = cc; sound = c.sound b.ok; ends = c.ends }

-- what is accepted is written back, and is sound
pub file_of_lem : (s : List ℕ) (N : Net) (m : List ℕ) → Bytes s → parse_file s ≡ done N m → IsFileOf s N m
file_of_lem s N m bs h =
    let r₃ : ℕ → ℕ → ℕ → List ℕ → Read Net = λ p₀ p₁ p₂ l₃. check (eqb p₀ 80 && (eqb p₁ 77 && eqb p₂ 78)) 1 (parse_version l₃) in
    let r₂ : ℕ → ℕ → List ℕ → Read Net = λ p₀ p₁ l₂. byte_or 4 l₂ (r₃ p₀ p₁) in
    let r₁ : ℕ → List ℕ → Read Net = λ p₀ l₁. byte_or 4 l₁ (r₂ p₀) in
    let a = true_of (leb 8 (length s)) 1 (byte_or 4 s r₁) N m h in
    let p = byte_of 4 s r₁ N m bs a.1 in
    let q = byte_of 4 p.rest (r₂ p.byte) N m p.bytes p.then in
    let r = byte_of 4 q.rest (r₃ p.byte q.byte) N m q.bytes q.then in
    let mark = eqb p.byte 80 && (eqb q.byte 77 && eqb r.byte 78) in
    let t = true_of mark 1 (parse_version r.rest) N m r.then in
    let b = board_of r.rest N m r.bytes t.1 in
    let e : s ≡ p.byte ∷ q.byte ∷ r.byte ∷ r.rest =
    p.list ∙ ap (λ (x : List ℕ). p.byte ∷ x) (q.list ∙ ap (λ (x : List ℕ). q.byte ∷ x) r.list) in
    subst (λ (x : List ℕ). IsFileOf x N m) (sym e)
    (file_made p.byte q.byte r.byte r.rest N m t.0 b (counts_of b.board b.rest N m b.bytes b.then))
