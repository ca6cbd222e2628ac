-- 25, or the writing of the record with the other version.
use Rattle.std.proofs.Common.{sym, ap, List, ℕ, length}
use Rattle.basics.specs.Refusals.{Answer, stored}
use Rattle.network.specs.Record.{net_of}
use Rattle.pmn_versions.proofs.VersionLaws.{with_sound}
use Rattle.pmn_converter.specs.Conversion.{as_converted}
use Rattle.pmn_converter.specs.ConversionLaws.{conversion_refused, with_written, with_bytes}
use Rattle.pmn_converter.proofs.unchecked.convert_sound.Goals as goal

pub returns-then-not-is_convertible : goal.returns-then-not-is_convertible
unfolding as_converted stored net_of
returns-then-not-is_convertible c =
    let r = c.args.network in
    let out = c.args.out.now in
    let e = sym (conversion_refused (net_of r) (length out) (sym c.if-not-is_convertible.ensures)) in
    record { value = ap as_converted e; out_after = ap (λ (a : Answer (List ℕ)). stored a out) e }

pub write_sound-written-requires : goal.write_sound-written-requires
write_sound-written-requires c =
    with_sound c.args.network c.requires (sym c.if-not-is_convertible.ensures) c.in_other_version-other.ensures

pub returns : goal.returns
returns c =
    let w = c.write_sound-written.ensures in
    let r = c.args.network in
    let e = c.in_other_version-other.ensures in
    let can = sym c.if-not-is_convertible.ensures in
    record { value = with_written r c.requires can e (length c.args.out.now) w.value; out_after = with_bytes r c.requires can e c.args.out.now w.out_after }
