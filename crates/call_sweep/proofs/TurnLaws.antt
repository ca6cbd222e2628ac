-- The turns of a sweep of a record: the sweep that goes on from there, and the steps that each turn enters. Assumes nothing.
use mathlib.Core.Path.{◌≡◌, refl, sym, ap, ◌∙◌, subst}
use mathlib.Core.Bool.{true}
use mathlib.Core.List.{List, [], ◌++◌}
use Prim.Native.Nat.{ℕ, zero, suc, ◌+◌, ◌-◌, ◌≤◌, ◌<◌}
use native.Mathlib.Numerals.{add-one}
use native.Mathlib.Omega.{arith}
use borrow.Author.Tests.{le-leb}
use lib.ListN.{length, replicate}
use Rattle.basics.specs.Refusals.{Answer, accepted, refused, checks}
use Rattle.basics.specs.RefusalLaws.{Refused}
use Rattle.basics.specs.TestLaws.{is_true, T_is}
use Rattle.network.specs.Threshold.{Net}
use Rattle.network.specs.Sound.{Sound}
use Rattle.network.specs.Record.{net_of, layout, sound_record}
use Rattle.network.specs.RecordLaws.{ArrayLengths, shaped_layout, count_gates, gate_number, net_of_layout, layout_net_of, sound_layout}
use Rattle.network.specs.SoundLaws.{sized_of}
use Rattle.network.specs.declared.Network.{Network}
use Rattle.fold_theory.specs.Collapse.{collapse}
use Rattle.fold_theory.specs.Sweep.{readers, go_on, sweep_once, Swept, sweeping}
use Rattle.fold_theory.proofs.StepLaws.{collapse_kept}
use Rattle.call_theory.specs.Steps.{Step, collapse_steps, turn_steps, sweep_steps}
use Rattle.journal.specs.Journals.{enter_all}
use Rattle.journal.specs.declared.CallAnswer.{CallAnswer}
use Rattle.journal.specs.declared.Journal.{Journal}
use Rattle.journal.specs.declared.Record.{Record}
use Rattle.fold_reader_pairs.specs.Collapsing.{collapsed_by}
use Rattle.fold_reader_pairs.specs.declared.Pairs.{Pairs}
use Rattle.fold_sweep.specs.Sweeping.{asked, NextCollapse}
use Rattle.fold_sweep.specs.Memory.{Remembered}
use Rattle.fold_sweep.specs.MemoryLaws.{remembered_none}
use Rattle.journal.specs.Parts.{answered}
use Rattle.journal.proofs.JournalLaws.{enter_all_join}
use Rattle.call_collapse.specs.Entering.{CollapseEntered}

go_on_end : {A : Type 0} (a : Answer Net) (f : Net → A) (x : A) → Refused a → go_on a f x ≡ x
unfolding go_on
go_on_end (accepted M) f x h = absurd h
go_on_end (refused c) f x h = refl

-- ---- the sweep from N on: after c of so many turns
module _ (N : Net) (b : ℕ) where
  sweeping_on : (turns c : ℕ) (M : Net) → c < turns → sweep_once N b ≡ accepted M → sweeping (turns - c) b N c ≡ sweeping (turns - (c + 1)) b M (c + 1)
  unfolding sweeping go_on
  sweeping_on turns c M h e = rw (let k : turns - c ≡ suc (turns - (c + 1)) = omega arith in k) (rw (e, add-one))

  -- no gate is left to fold: the network stays, and no step is entered
  sweeping_end : (n c : ℕ) → Refused (sweep_once N b) → sweeping n b N c ≡ record { net = N; collapses = c }
  unfolding sweeping
  sweeping_end zero c h = refl
  sweeping_end (suc n) c h = go_on_end (sweep_once N b) (λ M. sweeping n b M (suc c)) (record { net = N; collapses = c }) h

  steps_end : (n : ℕ) → Refused (sweep_once N b) → sweep_steps n b N ≡ []
  unfolding sweep_steps
  steps_end zero h = refl
  steps_end (suc n) h = go_on_end (sweep_once N b) (λ M. turn_steps N b N.inputs (length N.gates) ++ sweep_steps n b M) [] h

  -- no turn is left
  sweeping_last : (n c : ℕ) → n ≡ 0 → sweeping n b N c ≡ record { net = N; collapses = c }
  unfolding sweeping
  sweeping_last n c e = rw e

  steps_last : (n : ℕ) → n ≡ 0 → sweep_steps n b N ≡ []
  unfolding sweep_steps
  steps_last n e = rw e

  -- ---- the steps of a turn are those of the lowest gate that is not refused
  turn_lower : (u i n : ℕ) → ((k : ℕ) → k < i → Refused (asked N b (u + k))) → turn_steps N b u (i + n) ≡ turn_steps N b (u + i) n
  unfolding turn_steps
  turn_lower u zero n l =
      ap (turn_steps N b u) (let e : 0 + n ≡ n = omega arith in e) ∙ ap (λ (v : ℕ). turn_steps N b v n) (let e : u ≡ u + 0 = omega arith in e)
  turn_lower u (suc i) n l =
      ap (turn_steps N b u) (let e : suc i + n ≡ suc (i + n) = omega arith in e)
      ∙ go_on_end (asked N b u) (λ M. collapse_steps N u) (turn_steps N b (suc u) (i + n))
      (subst (λ (v : ℕ). Refused (asked N b v)) (let e : u + 0 ≡ u = omega arith in e) (l 0 (omega arith)))
      ∙ turn_lower (suc u) i n (λ k h. subst (λ (v : ℕ). Refused (asked N b v)) (let e : u + suc k ≡ suc u + k = omega arith in e) (l (suc k) (omega arith)))
      ∙ ap (λ (v : ℕ). turn_steps N b v n) (let e : suc u + i ≡ u + suc i = omega arith in e)

  turn_taken : (u n : ℕ) (M : Net) → readers N u ≤ b → collapse N u ≡ accepted M → turn_steps N b u (suc n) ≡ collapse_steps N u
  unfolding turn_steps go_on checks
  turn_taken u n M h e = rw (le-leb (readers N u) b h, e)

-- ---- a turn of a record, and the record after it
module _ (r : Network) (b u : ℕ) (p : Pairs) (f : NextCollapse r b u p) where
  turn_steps_lem : turn_steps (net_of r) b (net_of r).inputs (length (net_of r).gates) ≡ collapse_steps (net_of r) u
  unfolding net_of
  turn_steps_lem =
      let at = gate_number r u f.own in
      let i : ℕ = u - r.inputs in
      let n : ℕ = r.gates - (i + 1) in
      ap (turn_steps (net_of r) b r.inputs) (let e : length (net_of r).gates ≡ i + suc n = omega (arith, count_gates r) in e)
      ∙ turn_lower (net_of r) b r.inputs i (suc n) f.lower.each
      ∙ ap (λ (v : ℕ). turn_steps (net_of r) b v (suc n)) (let e : r.inputs + i ≡ u = omega arith in e)
      ∙ turn_taken (net_of r) b u n (collapsed_by r u p) f.few f.collapsed

  steps_on : (turns c : ℕ) → c < turns → sweep_steps (turns - c) b (net_of r) ≡ collapse_steps (net_of r) u ++ sweep_steps (turns - (c + 1)) b (collapsed_by r u p)
  unfolding sweep_steps go_on
  steps_on turns c h = rw (let k : turns - c ≡ suc (turns - (c + 1)) = omega arith in k, f.first)
      (ap (λ (ss : List Step). ss ++ sweep_steps (turns - (c + 1)) b (collapsed_by r u p)) turn_steps_lem)

  collapsed_sound : Sound (collapsed_by r u p)
  collapsed_sound = (collapse_kept (net_of r) u (collapsed_by r u p) f.collapsed).all_kept.sound

  next_net : net_of (layout (collapsed_by r u p)) ≡ collapsed_by r u p
  next_net = net_of_layout (collapsed_by r u p) collapsed_sound

  next_sound : sound_record (layout (collapsed_by r u p)) ≡ true
  next_sound = is_true (sound_record (layout (collapsed_by r u p))) (sound_layout (collapsed_by r u p) collapsed_sound)

-- ---- the network and the journal that a sweep of r has reached after so many collapses, and what it remembers of that network
module _ (r : Record) (b turns : ℕ) where
  abbrev whole_sweep : Swept
  whole_sweep = sweeping turns b (net_of r.network) 0

  abbrev whole_journal : Journal
  whole_journal = enter_all r.journal (sweep_steps turns b (net_of r.network))

  pub record Reached (c : Network) (j : Journal) (refusers : List ℕ) (done : ℕ) : Type 0 where
    pub few : done ≤ turns
    pub whole : sound_record c ≡ true
    pub shape : ArrayLengths c
    pub rest : sweeping (turns - done) b (net_of c) done ≡ whole_sweep
    pub left : enter_all j (sweep_steps (turns - done) b (net_of c)) ≡ whole_journal
    pub remembered : Remembered (net_of c) refusers

  -- what the sweep answers
  abbrev pub answer_after : CallAnswer
  answer_after = answered (layout whole_sweep.net) whole_journal whole_sweep.collapses

  pub reached_none : sound_record r.network ≡ true → ArrayLengths r.network → Reached r.network r.journal (replicate 128 128) 0
  reached_none s l = let e : turns - 0 ≡ turns = omega arith in record {
    few = omega arith;
    whole = s;
    shape = l;
    rest = ap (λ (n : ℕ). sweeping n b (net_of r.network) 0) e;
    left = ap (λ (n : ℕ). enter_all r.journal (sweep_steps n b (net_of r.network))) e;
    remembered = remembered_none (net_of r.network) (omega (arith, count_gates r.network, (sized_of r.network s).few_gates));
  }

module _ {r : Record} {b turns : ℕ} {c : Network} {j : Journal} {refusers : List ℕ} {done : ℕ} (h : Reached r b turns c j refusers done) where
  -- one collapse more
  pub reached_more : (u : ℕ) (p : Pairs) → done < turns → NextCollapse c b u p → {kept : List ℕ} → Remembered (collapsed_by c u p) kept
      → {after : Record} → CollapseEntered (record { network = c; journal = j }) u p after → Reached r b turns after.network after.journal kept (done + 1)
  reached_more u p l f {kept} m {after} e =
      let M = collapsed_by c u p in
      let n = after.network in
      let k = after.journal in
      let net : net_of n ≡ M = ap net_of e.network_is ∙ next_net c b u p f in
      record {
        few = omega arith;
        whole = ap sound_record e.network_is ∙ next_sound c b u p f;
        shape = subst ArrayLengths (sym e.network_is) (shaped_layout M);
        rest = ap (λ (L : Net). sweeping (turns - (done + 1)) b L (done + 1)) net ∙ sym (sweeping_on (net_of c) b turns done M l f.first) ∙ h.rest;
        left = ap (λ (L : Net). enter_all k (sweep_steps (turns - (done + 1)) b L)) net
            ∙ ap (λ (x : Journal). enter_all x (sweep_steps (turns - (done + 1)) b M)) e.journal_is
            ∙ sym (ap (enter_all j) (steps_on c b u p f turns done l) ∙ enter_all_join j (collapse_steps (net_of c) u) (sweep_steps (turns - (done + 1)) b M))
            ∙ h.left;
        remembered = subst (λ (L : Net). Remembered L kept) (sym net) m;
      }

  abbrev Ends : Type 0
  Ends = answered c j done ≡ answer_after r b turns

  -- the end: no gate is left to fold, or no turn
  reached_end : sweeping (turns - done) b (net_of c) done ≡ record { net = net_of c; collapses = done } → sweep_steps (turns - done) b (net_of c) ≡ [] → Ends
  unfolding enter_all
  reached_end e none =
      let swept : record { net = net_of c; collapses = done } ≡ whole_sweep r b turns = sym e ∙ h.rest in
      let steps : j ≡ whole_journal r b turns = sym (ap (enter_all j) none) ∙ h.left in
      let laid = sym (layout_net_of c h.shape (T_is (sound_record c) h.whole)) in
      (λ x. answered (laid x) (steps x) done) ∙ ap (λ (s : Swept). answered (layout s.net) (whole_journal r b turns) s.collapses) swept

  pub reached_settled : Refused (sweep_once (net_of c) b) → Ends
  reached_settled t = reached_end (sweeping_end (net_of c) b (turns - done) done t) (steps_end (net_of c) b (turns - done) t)

  pub reached_last : turns ≤ done → Ends
  reached_last t = let z : turns - done ≡ 0 = omega arith in
      reached_end (sweeping_last (net_of c) b (turns - done) done z) (steps_last (net_of c) b (turns - done) z)
