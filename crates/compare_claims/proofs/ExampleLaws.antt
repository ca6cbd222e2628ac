-- The examples, by computing. Assumes nothing.
use Rattle.std.specs.Prelude.{◌≡◌, refl, Bool, true, false, List, [], ◌∷◌, ◌≢◌, ℕ, zero, suc, ◌≤◌, ◌<◌, get_or}
use Rattle.std.proofs.Common.{sym, ap, ◌∙◌, true≢false, arith}
use Rattle.std.proofs.lemmas.Bool.{false≢true}
use Rattle.basics.specs.TestLaws.{T_is}
use Rattle.network.specs.Threshold.{Net, frame, fits_frame, output_bits, values, run, assign, bit, sum}
use Rattle.question_theory.proofs.FrameLaws.{fits_below}
use Rattle.compare_theory.specs.Verdicts.{ApartOn, Verdict}
use Rattle.compare_claims.specs.Example.{single, double, constant, ExampleVerdicts}

-- the output bits on the two frames
same_0 : output_bits single (frame 0) ≡ output_bits double (frame 0)
unfolding single double output_bits values run assign bit sum frame
same_0 = refl

same_1 : output_bits single (frame 1) ≡ output_bits double (frame 1)
unfolding single double output_bits values run assign bit sum frame
same_1 = refl

other_0 : output_bits single (frame 0) ≢ output_bits constant (frame 0)
unfolding single constant output_bits values run assign bit sum frame
other_0 e = false≢true (ap (λ (bs : List Bool). get_or bs 0 false) e)

other_1 : output_bits single (frame 1) ≡ output_bits constant (frame 1)
unfolding single constant output_bits values run assign bit sum frame
other_1 = refl

-- a frame of one input is 0 or 1
frame_below : (x : ℕ) → fits_frame 1 x ≡ true → x < 2
frame_below x e = (fits_below 1 x).0 (T_is _ e)

-- a verdict that is neither 2 nor one other
one_left : (v : ℕ) → v ≤ 2 → v ≢ 2 → v ≢ 1 → v ≡ 0
one_left zero l d e = refl
one_left (suc zero) l d e = absurd (e refl)
one_left (suc (suc zero)) l d e = absurd (d refl)
one_left (suc (suc (suc v))) l d e = absurd (omega arith)

other_left : (v : ℕ) → v ≤ 2 → v ≢ 2 → v ≢ 0 → v ≡ 1
other_left zero l d e = absurd (e refl)
other_left (suc zero) l d e = refl
other_left (suc (suc zero)) l d e = absurd (d refl)
other_left (suc (suc (suc v))) l d e = absurd (omega arith)

never_apart : (x : ℕ) → ApartOn single double x → ⊥
unfolding single double
never_apart zero a = a.differ same_0
never_apart (suc zero) a = a.differ same_1
never_apart (suc (suc x)) a = absurd (omega (arith, frame_below (suc (suc x)) a.fits))

apart_at : (x : ℕ) → ApartOn single constant x → x ≡ 0
unfolding single constant
apart_at zero a = refl
apart_at (suc zero) a = absurd (a.differ other_1)
apart_at (suc (suc x)) a = absurd (omega (arith, frame_below (suc (suc x)) a.fits))

few : single.inputs ≤ 20
unfolding single
few = omega arith

fits_0 : fits_frame single.inputs 0 ≡ true
unfolding single fits_frame
fits_0 = refl

is_apart : (budget v x s : ℕ) → Verdict single constant budget v x s → v ≡ 1
is_apart budget v x s r = other_left v r.one_of_three (r.decided few) (λ e. other_0 (r.alike e 0 fits_0))

pub example_verdicts : ExampleVerdicts
example_verdicts = record {
  alike = λ budget v x s r. one_left v r.one_of_three (r.decided few) (λ e. never_apart x (r.apart e));
  apart = is_apart;
  shown = λ budget v x s r. apart_at x (r.apart (is_apart budget v x s r));
}
