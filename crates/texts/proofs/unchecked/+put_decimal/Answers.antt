-- The digits of a tenth stand at the front, and the last digit is stored after them.
use Rattle.std.proofs.Common.{arith, sym, ap, [], ◌∷◌, ℕ, ◌+◌, ◌/◌, ◌%◌, ◌<◌, length, length-append}
use Rattle.texts.specs.Texts.{decimal}
use Rattle.texts.proofs.DecimalLaws.{decimal_one, decimal_more}
use Rattle.texts.proofs.PutLaws.{put_none, put_text, put_length, put_byte}
use Rattle.texts.proofs.unchecked.+put_decimal.Goals as goal

-- the digits of a tenth leave room for the last digit
room : {t : ℕ} (c : goal.After-slice_known-2-1 t) → c.put_decimal-at.result < length c.args.out.now
room c =
    let e = decimal_more c.args.n c.if-n-lt10.false c.ranges.n.fits in
    omega (arith, c.requires, ap length e, length-append (decimal (c.args.n / 10)) ((48 + c.args.n % 10) ∷ []), c.put_decimal-at.ensures.long)

pub bounds-out-0 : goal.bounds-out-0
bounds-out-0 t c = let e = ap length (decimal_one c.args.n c.if-n-lt10.true) in omega (arith, c.requires)

pub returns-then-n-lt10 : goal.returns-then-n-lt10
returns-then-n-lt10 t c =
    let e = decimal_one c.args.n c.if-n-lt10.true in
    put_text (put_byte (put_none c.args.out.now) (48 + c.args.n) (omega (arith, c.requires, ap length e))) (sym e)

pub put_decimal-at-requires : goal.put_decimal-at-requires
put_decimal-at-requires t c =
    let e = decimal_more c.args.n c.if-n-lt10.false c.ranges.n.fits in
    (omega (arith, c.decreases), omega (arith, c.requires, ap length e, length-append (decimal (c.args.n / 10)) ((48 + c.args.n % 10) ∷ [])))

pub bounds-out-at : goal.bounds-out-at
bounds-out-at t c = let h = room c in omega (arith, put_length c.put_decimal-at.ensures (omega arith))

pub returns : goal.returns
returns t c =
    put_text (put_byte c.put_decimal-at.ensures (48 + c.args.n % 10) (room c)) (sym (decimal_more c.args.n c.if-n-lt10.false c.ranges.n.fits))
