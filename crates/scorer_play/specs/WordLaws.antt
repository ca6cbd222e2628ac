-- A game on frames is the game on the words of those that are read, and the sheet on a network follows. Assumes nothing.
use Rattle.std.specs.Prelude.{◌≡◌, Bool, ◌≢◌, leb, length, replicate}
use Rattle.std.proofs.Math.Path.{refl, sym, ap}
use Rattle.std.proofs.Common.{◌∙◌, arith, drop_of_length-le, drop-cons}
use Rattle.std.proofs.Math.Bool.{true, false}
use mathlib.Core.List.{List, [], ◌∷◌, ◌++◌, map, append-nil}
use Rattle.std.proofs.Math.Logic.{inl, inr}
use Prim.Native.Nat.{ℕ, zero, suc, ◌%◌, ◌≤◌, ◌<◌}
use Rattle.std.proofs.Math.Decide.{dec_lt}
use borrow.Author.Tests.{le-leb, lt-leb}
use Rattle.std.proofs.Math.ListN.{get_or, take, drop, length-map}
use Rattle.std.proofs.Math.Seq.{length-take-le, take-append_seam}
use Rattle.basics.specs.Lists.{all, Each}
use Rattle.basics.specs.ListLaws.{each_of}
use Rattle.basics.specs.Refusals.{Answer, accepted, refused, code_of, stored, ◌else◌, checks, bind}
use Rattle.basics.specs.RefusalLaws.{checks_first, checks_next, checks_none}
use Rattle.basics.specs.TestLaws.{is_true, T_is, refuted, and_left, and_right, both_true}
use Rattle.network.specs.Threshold.{Net, fits_frame, frame, output_bits}
use Rattle.network.specs.Record.{net_of, sound_record}
use Rattle.network.specs.RecordLaws.{count_outputs, sound_net}
use Rattle.network.specs.declared.Network.{Network}
use Rattle.frame_reading.specs.Reading.{frame_answer, as_reading, reading}
use Rattle.frame_batch.specs.Frames.{room_for, frame_words, frames_answer}
use Rattle.scorer_theory.specs.Rules.{Pins, felled_by, Game, first_frame, next_game, felled_from}
use Rattle.scorer_theory.specs.NetworkGames.{pins_on, game}
use Rattle.scorer_theory.specs.Frames.{after_ball, game_after}
use Rattle.scorer_theory.proofs.RuleLaws.{bits_many}
use Rattle.scorer_tally.specs.Sheets.{as_sheet}
use Rattle.scorer_ball.specs.Words.{pins_in}
use Rattle.scorer_ball.specs.PinLaws.{pins_word}
use Rattle.scorer_play.specs.Play.{ShortFrames, word_pins, after_words, word_game, joined}
use Rattle.scorer_play.specs.Sheets.{network_sheet}
use Rattle.scorer_play.specs.BallLaws.{ball_cases, felled_next, felled_refused, felled_long, felled_none, felled_few}
use Rattle.scorer_play.specs.PlayLaws.{joined_none, joined_twice}

-- ---- the frames that are read: one more
pub fit_next : (p : ℕ → Bool) (n : ℕ) (xs : List ℕ) → n < length xs → all p (take n xs) ≡ true → p (get_or xs n 0) ≡ true → all p (take (suc n) xs) ≡ true
unfolding all
fit_next p n [] h e f = absurd (omega arith)
fit_next p zero (x ∷ xs) h e f = both_true (p x) true f refl
fit_next p (suc n) (x ∷ xs) h e f = both_true (p x) _ (and_left (p x) _ e) (fit_next p n xs (omega arith) (and_right (p x) _ e) f)

-- ---- the first frames by their words, and then the others

joined_bind : (ys : List ℕ) (a more : Answer (List ℕ)) → joined ys (bind a (λ xs. joined xs more)) ≡ bind (joined ys a) (λ xs. joined xs more)
unfolding joined bind
joined_bind ys (accepted xs) more = joined_twice ys xs more
joined_bind ys (refused c) more = refl

bind_same : (a : Answer (List ℕ)) (f g : List ℕ → Answer (List ℕ)) → ((xs : List ℕ) → a ≡ accepted xs → f xs ≡ g xs) → bind a f ≡ bind a g
unfolding bind
bind_same (accepted xs) f g h = h xs refl
bind_same (refused c) f g h = refl

module _ (pins : ℕ → Answer Pins) (word : ℕ → ℕ) where
  -- the game on the other frames
  abbrev later : ℕ → Game → List ℕ → Answer (List ℕ)
  later n g xs = felled_from pins (game_after pins g (take n xs)) (drop n xs)

  first_words : (n : ℕ) (g : Game) (xs : List ℕ) → Each (λ x. pins x ≡ word_pins (word x)) (take n xs)
      → felled_from pins g xs ≡ bind (felled_from word_pins g (map word (take n xs))) (λ felled. joined felled (later n g xs))
  unfolding felled_from game_after bind word_pins after_ball
  first_words zero g xs e = sym (joined_none (felled_from pins g xs))
  first_words (suc n) g [] e = sym (joined_none (accepted []))
  first_words (suc n) g (x ∷ xs) e =
      let p = pins_in (word x % 1024) in
      let words = map word (take n xs) in
      let more = later (suc n) g (x ∷ xs) in
      let on : Answer (List ℕ) → Answer (List ℕ) = λ a. bind a (λ felled. joined felled more) in
      elim (ball_cases g p) as (λ _. felled_from pins g (x ∷ xs) ≡ on (felled_from word_pins g (word x ∷ words))) [
        | inl a ↦
            let felled = felled_by g.rack p ∷ [] in
            let same = ap (λ (a : Answer Pins). felled_from pins (game_after pins (after_ball g a) (take n xs)) (drop n xs)) (sym e.0) in
            felled_next pins g x xs e.0 a.pins
            ∙ ap (joined felled) (first_words n (next_game g p) xs e.1)
            ∙ joined_bind felled (felled_from word_pins (next_game g p) words) (later n (next_game g p) xs)
            ∙ ap (λ (m : Answer (List ℕ)). bind (joined felled (felled_from word_pins (next_game g p) words)) (λ fs. joined fs m)) same
            ∙ ap on (sym (felled_next word_pins g (word x) words refl a.pins))
        | inr r ↦ felled_refused pins g x xs e.0 r.1 ∙ ap on (sym (felled_refused word_pins g (word x) words refl r.1))
      ]

-- ---- on a network
module _ (r : Network) where
  abbrev N : Net
  N = net_of r

  -- the word of a frame that is not long shows its pins, and a long one is refused
  word_pins_lem : sound_record r ≡ true → 10 ≤ r.outputs → (x : ℕ) → fits_frame r.inputs x ≡ true → pins_on N x ≡ word_pins (reading r x).bits
  unfolding pins_on net_of reading frame_answer as_reading checks word_pins
  word_pins_lem sound ten x fits =
      let bits = output_bits N (frame x) in
      let pins = pins_word bits (omega (arith, bits_many N (frame x), count_outputs r)) in
      rw (sound, fits) (ap accepted (sym pins))

  long_frame : (x : ℕ) → fits_frame r.inputs x ≡ false → pins_on N x ≡ refused 10
  unfolding pins_on net_of
  long_frame x e = checks_first (fits_frame r.inputs x) 10 [] _ e

  module _ {frames : List ℕ} {n : ℕ} (short : ShortFrames r.inputs frames n) where
    abbrev words : List ℕ
    words = frame_words r (take n frames)

    many_words : length words ≡ n
    unfolding frame_words
    many_words = length-map (take n frames) _ ∙ length-take-le n frames short.within

    -- the balls on the words of the frames that are read, and then 10 or the end, are the balls on the frames
    frames_words : sound_record r ≡ true → 10 ≤ r.outputs → felled_from (pins_on N) first_frame frames ≡ word_game words (length frames)
    unfolding word_game after_words frame_words first_frame joined bind checks
    frames_words sound ten =
        let word : ℕ → ℕ = λ x. (reading r x).bits in
        let each = each_of (fits_frame r.inputs) (λ x. pins_on N x ≡ word_pins (word x)) (λ x t. word_pins_lem sound ten x (is_true _ t)) (take n frames)
        (T_is _ short.fit) in
        let h = game_after (pins_on N) first_frame (take n frames) in
        first_words (pins_on N) word n first_frame frames each
        ∙ bind_same (felled_from word_pins first_frame words) _ _ λ felled e.
        let few = felled_few first_frame (omega arith) words e in
        elim (dec_lt n (length frames)) as (λ _. joined felled (felled_from (pins_on N) h (drop n frames))
        ≡ checks ((leb (length frames) (length words) else 10) ∷ []) (accepted felled)) [
          | yes k ↦
              let x = get_or frames n 0 in
              let long = long_frame x (short.next k (omega (arith, few, many_words))) in
              let stop = ap (felled_from (pins_on N) h) (drop-cons frames n 0 k) ∙ felled_long (pins_on N) h x _ long in
              ap (joined felled) stop ∙ sym (checks_first (leb (length frames) (length words)) 10 [] _ (lt-leb (length frames) (length words) (omega (arith, many_words))))
          | no k ↦
              let end = ap (felled_from (pins_on N) h) (drop_of_length-le frames {i = n} (omega arith)) ∙ felled_none (pins_on N) h in
              ap (joined felled) end ∙ ap accepted (append-nil felled)
              ∙ sym (checks_next (leb (length frames) (length words)) 10 [] _ (le-leb (length frames) (length words) (omega (arith, many_words))))
        ]

    -- ---- the words of the frames that are read, as the call gives them
    module _ {code : ℕ} (e : code ≡ code_of (frames_answer r (take n frames) (replicate 22 0))) where
      batch_answer : frames_answer r (take n frames) (replicate 22 0) ≡ checks ((sound_record r else 20) ∷ []) (accepted words)
      unfolding frames_answer room_for checks
      batch_answer =
          let many = length-take-le n frames short.within in
          rw (many, le-leb n 64 (omega (arith, short.few)), le-leb n 22 short.few, short.fit)

      batch_code : code ≡ code_of (checks ((sound_record r else 20) ∷ []) (accepted words))
      batch_code = e ∙ ap code_of batch_answer

      pub batch_broken : code ≢ 0 → (code ≡ 20) × (sound_record r ≡ false)
      unfolding checks code_of
      batch_broken h = elim (sound_record r) as (λ b. code ≡ code_of (checks ((b else 20) ∷ []) (accepted words)) → (code ≡ 20) × (b ≡ false)) [
        | true ↦ λ z. absurd (h z)
        | false ↦ λ z. (z, refl)
      ] batch_code

      pub batch_sound : code ≡ 0 → sound_record r ≡ true
      unfolding checks code_of
      batch_sound h = elim (sound_record r) as (λ b. code ≡ code_of (checks ((b else 20) ∷ []) (accepted words)) → b ≡ true) [
        | true ↦ λ z. refl
        | false ↦ λ z. absurd (omega arith)
      ] batch_code

      pub batch_words : code ≡ 0 → {left : List ℕ} → left ≡ stored (frames_answer r (take n frames) (replicate 22 0)) (replicate 22 0) → take n left ≡ words
      unfolding checks stored
      batch_words h d =
          let put = d ∙ ap (λ (a : Answer (List ℕ)). stored a (replicate 22 0)) (batch_answer ∙ checks_next (sound_record r) 20 [] _ (batch_sound h)) in
          ap (take n) put ∙ ap (λ (k : ℕ). take k (words ++ drop (length words) (replicate 22 0))) (sym many_words) ∙ take-append_seam words _

    -- ---- the sheet
    pub sheet_words : sound_record r ≡ true → 10 ≤ r.outputs → network_sheet r frames ≡ as_sheet (word_game words (length frames))
    unfolding network_sheet game
    sheet_words sound ten =
        let enough = ap (leb 10) (count_outputs r) ∙ le-leb 10 r.outputs ten in
        ap as_sheet (checks_next (sound_record r) 20 [] _ sound ∙ checks_none _ ∙ checks_next _ 27 [] _ enough ∙ checks_none _ ∙ frames_words sound ten)

  pub sheet_broken : (frames : List ℕ) → sound_record r ≡ false → network_sheet r frames ≡ as_sheet (refused 20)
  unfolding network_sheet
  sheet_broken frames broken = ap as_sheet (checks_first (sound_record r) 20 [] _ broken)

  pub sheet_few : (frames : List ℕ) → sound_record r ≡ true → r.outputs < 10 → network_sheet r frames ≡ as_sheet (refused 27)
  unfolding network_sheet game
  sheet_few frames sound h =
      let few = ap (leb 10) (count_outputs r) ∙ lt-leb 10 r.outputs h in
      ap as_sheet (checks_next (sound_record r) 20 [] _ sound ∙ checks_none _ ∙ checks_first _ 27 [] _ few)

  pub wide_broken : 40 < r.inputs → sound_record r ≡ false
  unfolding net_of
  wide_broken h = refuted (sound_record r) λ t. omega (arith, (sound_net r t).few_inputs)
