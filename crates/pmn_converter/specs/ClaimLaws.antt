-- A file that is converted and converted back is itself. Assumes nothing.
use Rattle.std.specs.Prelude.{◌≡◌, ℕ, ◌≤◌, T, leb, length}
use Rattle.std.proofs.Common.{sym, ◌∙◌, arith, le-leb}
use Rattle.std.proofs.Math.Path.{ap}
use mathlib.Core.List.{List, [], ◌∷◌}
use Rattle.basics.specs.Refusals.{accepted, ◌else◌, checks, bind}
use Rattle.basics.specs.RefusalLaws.{accepted≢refused, accepted_inj, checks_accepted, checks_next, checks_none, bind_accepted}
use Rattle.basics.specs.TestLaws.{is_true}
use Rattle.network.specs.Threshold.{Net}
use Rattle.network.specs.Sound.{Sound}
use Rattle.pmn_format.specs.Format.{Read, done, file_bytes, parse_file}
use Rattle.pmn_format.proofs.WriteReadLaws.{file_read}
use Rattle.pmn_format.proofs.ReadWriteLaws.{file_of_lem}
use Rattle.pmn_opening.specs.Files.{as_answer, read_net}
use Rattle.pmn_versions.specs.Versions.{convertible, converted}
use Rattle.pmn_versions.proofs.VersionLaws.{other_back, converted_sound, converted_twice}
use Rattle.pmn_converter.specs.Conversion.{conversion, conversion_of}
use Rattle.pmn_converter.specs.Claims.{ThereAndBack}
use Rattle.pmn_converter.specs.ConversionLaws.{conversion_on}

-- an accepted read
read_of : (r : Read Net) {N : Net} → as_answer r ≡ accepted N → (m : List ℕ) × (r ≡ done N m)
unfolding as_answer
read_of (Read.refused k) e = accepted≢refused (sym e)
read_of (done M m) e = (m, ap (λ (x : Net). done x m) (accepted_inj e))

-- what an accepted conversion says of its network
accepted_of : (N : Net) (room : ℕ) (bytes : List ℕ) → conversion N room ≡ accepted bytes → T (convertible N.board) × (file_bytes (converted N) ≡ bytes)
unfolding conversion
accepted_of N room bytes e =
    let c = checks_accepted ((convertible N.board else 25) ∷ (leb (length (file_bytes (converted N))) room else 18) ∷ [])
    (accepted (file_bytes (converted N))) e in
    (c.0.0, accepted_inj c.1)

-- the file of a converted network is converted back
module _ (N : Net) (s : Sound N) (c : T (convertible N.board)) (back : ℕ) where
  converted_back : length (file_bytes N) ≤ back → conversion (converted N) back ≡ accepted (file_bytes N)
  unfolding converted
  converted_back h =
      conversion_on (converted N) back (is_true _ (other_back N.board s.board_ok_lem c))
      ∙ ap (λ (M : Net). checks ((leb (length (file_bytes M)) back else 18) ∷ []) (accepted (file_bytes M))) (converted_twice N s)
      ∙ checks_next (leb (length (file_bytes N)) back) 18 [] _ (le-leb (length (file_bytes N)) back h)
      ∙ checks_none _

  file_back : length (file_bytes N) ≤ back → conversion_of (file_bytes (converted N)) back ≡ accepted (file_bytes N)
  unfolding conversion_of read_net as_answer bind
  file_back h = ap (λ (x : Read Net). bind (as_answer x) (λ M. conversion M back)) (file_read (converted N) (converted_sound N s c)) ∙ converted_back h

pub there_and_back : ThereAndBack
unfolding ThereAndBack conversion_of read_net
there_and_back file bs room bytes e back h =
    let p = bind_accepted (read_net file) (λ N. conversion N room) e in
    let N = p.0 in
    let q = read_of (parse_file file) p.1 in
    let f = file_of_lem file N q.0 bs q.1 in
    let c = accepted_of N room bytes p.2 in
    ap (λ (l : List ℕ). conversion_of l back) (sym c.1)
    ∙ file_back N f.sound c.0 back (let k = ap length f.list in omega arith)
    ∙ ap accepted (sym f.list)
