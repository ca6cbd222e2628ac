-- The cost of a network is the sum over all places of its record. Assumes nothing.
use Rattle.std.specs.Prelude.{◌≡◌, refl, List, [], ◌∷◌, map, ℕ, zero, suc, ◌+◌, ◌*◌, ◌/◌, ◌%◌, ◌≤◌, ◌<◌, ℤ, nat_abs, length, get_or}
use Rattle.std.proofs.Common.{sym, ap, ◌∙◌, arith}
use Rattle.basics.specs.Lists.{range, tab}
use Rattle.network.specs.Threshold.{Feed, Gate, Net}
use Rattle.network.specs.Record.{no_feed, no_gate, nth_gate, place_of, place_weights, thresholds_of}
use Rattle.network.specs.Sound.{GatesOk}
use Rattle.network_report.specs.Size.{weights_cost, gate_cost, cost}
use Rattle.network_claims.specs.Sizes.{sizes_of}

-- ---- a sum over the numbers from a on, n of them
pub add_up : (ℕ → ℕ) → ℕ → ℕ → ℕ
add_up f a zero = 0
add_up f a (suc n) = f a + add_up f (suc a) n

add_same : (f g : ℕ → ℕ) (a n : ℕ) → ((i : ℕ) → i < n → f (a + i) ≡ g (a + i)) → add_up f a n ≡ add_up g a n
unfolding add_up
add_same f g a zero h = refl
add_same f g a (suc n) h =
    let z : a + 0 ≡ a = omega arith in
    let here : f a ≡ g a = sym (ap f z) ∙ h 0 (omega arith) ∙ ap g z in
    let next = add_same f g (suc a) n (λ i k. let e : suc a + i ≡ a + suc i = omega arith in ap f e ∙ h (suc i) (omega arith) ∙ sym (ap g e)) in
    λ x. here x + next x

-- numbers from b + 1 on are those from b on, each one more
add_shift : (f : ℕ → ℕ) (b n : ℕ) → add_up f (suc b) n ≡ add_up (λ i. f (suc i)) b n
unfolding add_up
add_shift f b zero = refl
add_shift f b (suc n) = ap (λ (x : ℕ). f (suc b) + x) (add_shift f (suc b) n)

-- numbers from a + b on are those from a on, each b more
add_moved : (f : ℕ → ℕ) (a b n : ℕ) → add_up f (a + b) n ≡ add_up (λ i. f (a + i)) b n
unfolding add_up
add_moved f a b zero = refl
add_moved f a b (suc n) =
    let e : suc (a + b) ≡ a + suc b = omega arith in
    ap (λ (x : ℕ). f (a + b) + x) (ap (λ (m : ℕ). add_up f m n) e ∙ add_moved f a (suc b) n)

add_split : (f : ℕ → ℕ) (a m n : ℕ) → add_up f a (m + n) ≡ add_up f a m + add_up f (a + m) n
unfolding add_up
add_split f a zero n =
    let e : a ≡ a + 0 = omega arith in
    let z : 0 + n ≡ n = omega arith in
    let q : add_up f a (0 + n) ≡ add_up f (a + 0) n = λ x. add_up f (e x) (z x) in
    omega (arith, q)
add_split f a (suc m) n =
    let r = add_split f (suc a) m n in
    let e : suc a + m ≡ a + suc m = omega arith in
    let z : suc m + n ≡ suc (m + n) = omega arith in
    let q : add_up f (suc a + m) n ≡ add_up f (a + suc m) n = ap (λ (x : ℕ). add_up f x n) e in
    let p : add_up f a (suc m + n) ≡ f a + add_up f (suc a) (m + n) = ap (add_up f a) z in
    omega (arith, p, r, q)

-- blocks of 16
add_blocks : (f : ℕ → ℕ) (g n : ℕ) → add_up f (16 * g) (16 * n) ≡ add_up (λ i. add_up f (16 * i) 16) g n
unfolding add_up
add_blocks f g zero = refl
add_blocks f g (suc n) =
    let e : 16 * suc n ≡ 16 + 16 * n = omega arith in
    let z : 16 * g + 16 ≡ 16 * suc g = omega arith in
    ap (add_up f (16 * g)) e ∙ add_split f (16 * g) 16 (16 * n)
    ∙ ap (λ (x : ℕ). add_up f (16 * g) 16 + x) (ap (λ (m : ℕ). add_up f m (16 * n)) z ∙ add_blocks f (suc g) n)

-- ---- lists
sizes_range : (f : ℕ → ℤ) (a n : ℕ) → sizes_of (map f (range a n)) ≡ add_up (λ i. nat_abs (f i)) a n
unfolding range add_up
sizes_range f a zero = refl
sizes_range f a (suc n) = ap (λ (x : ℕ). nat_abs (f a) + x) (sizes_range f (suc a) n)

sizes_tab : (n : ℕ) (f : ℕ → ℤ) → sizes_of (tab n f) ≡ add_up (λ i. nat_abs (f i)) 0 n
sizes_tab n f = sizes_range f 0 n

-- the members of a list, added up, and nothing for those past its end
pub total : {A : Type 0} → (A → ℕ) → List A → ℕ
total h [] = 0
total h (x ∷ xs) = h x + total h xs

nothing_past : {A : Type 0} (h : A → ℕ) (d : A) → h d ≡ 0 → (a n : ℕ) → add_up (λ i. h (get_or [] i d)) a n ≡ 0
unfolding add_up
nothing_past h d e a zero = refl
nothing_past h d e a (suc n) = let r = nothing_past h d e (suc a) n in omega (arith, e, r)

total_places : {A : Type 0} (h : A → ℕ) (d : A) → h d ≡ 0 → (xs : List A) (n : ℕ) → length xs ≤ n → add_up (λ i. h (get_or xs i d)) 0 n ≡ total h xs
unfolding add_up total
total_places h d e [] n k = nothing_past h d e 0 n
total_places h d e (x ∷ xs) zero k = absurd (omega arith)
total_places h d e (x ∷ xs) (suc n) k =
    ap (λ (m : ℕ). h x + m) (add_shift (λ i. h (get_or (x ∷ xs) i d)) 0 n ∙ total_places h d e xs n (omega arith))

-- ---- the places of a network's gates
feed_size : Feed → ℕ
feed_size f = nat_abs f.weight

feeds_total : (fs : List Feed) → total feed_size fs ≡ weights_cost fs
unfolding total feed_size weights_cost
feeds_total [] = refl
feeds_total (f ∷ fs) = ap (λ (m : ℕ). nat_abs f.weight + m) (feeds_total fs)

cost_parts : (gs : List Gate) → cost gs ≡ total (λ g. weights_cost g.feeds) gs + total (λ g. nat_abs g.threshold) gs
unfolding cost gate_cost total
cost_parts [] = refl
cost_parts (g ∷ gs) = let r = cost_parts gs in omega (arith, r)

few_feeds : (n : ℕ) (gs : List Gate) → GatesOk n gs → (g : ℕ) → length (nth_gate gs g).feeds ≤ 16
few_feeds n [] o g = omega arith
few_feeds n (x ∷ gs) o zero = o.0.few
few_feeds n (x ∷ gs) o (suc g) = few_feeds (suc n) gs o.1 g

-- one block of 16 places: the weights of one gate
block : (n : ℕ) (gs : List Gate) → GatesOk n gs → (g : ℕ) → add_up (λ p. nat_abs (place_of gs p).weight) (16 * g) 16 ≡ weights_cost (nth_gate gs g).feeds
unfolding place_of feed_size
block n gs o g =
    let fs = (nth_gate gs g).feeds in
    let z : 16 * g + 0 ≡ 16 * g = omega arith in
    ap (λ (m : ℕ). add_up (λ p. nat_abs (place_of gs p).weight) m 16) (sym z)
    ∙ add_moved (λ p. nat_abs (place_of gs p).weight) (16 * g) 0 16
    ∙ add_same (λ i. nat_abs (place_of gs (16 * g + i)).weight) (λ i. feed_size (get_or fs i no_feed)) 0 16 (λ i k.
    let a : (16 * g + (0 + i)) / 16 ≡ g = omega arith in
    let b : (16 * g + (0 + i)) % 16 ≡ 0 + i = omega arith in
    λ x. nat_abs (get_or (nth_gate gs (a x)).feeds (b x) no_feed).weight)
    ∙ total_places feed_size no_feed refl fs 16 (few_feeds n gs o g)
    ∙ feeds_total fs

pub weights_total : (n : ℕ) (gs : List Gate) → GatesOk n gs → length gs ≤ 128 → sizes_of (place_weights gs) ≡ total (λ g. weights_cost g.feeds) gs
unfolding place_weights weights_cost
weights_total n gs o few =
    let f : ℕ → ℕ = λ p. nat_abs (place_of gs p).weight in
    sizes_tab 2048 (λ p. (place_of gs p).weight)
    ∙ add_blocks f 0 128
    ∙ add_same (λ i. add_up f (16 * i) 16) (λ i. weights_cost (nth_gate gs i).feeds) 0 128 (λ i k. block n gs o (0 + i))
    ∙ total_places (λ g. weights_cost g.feeds) no_gate refl gs 128 few

pub thresholds_total : (gs : List Gate) → length gs ≤ 128 → sizes_of (thresholds_of gs) ≡ total (λ g. nat_abs g.threshold) gs
unfolding thresholds_of
thresholds_total gs few = sizes_tab 128 (λ g. (nth_gate gs g).threshold) ∙ total_places (λ g. nat_abs g.threshold) no_gate refl gs 128 few

pub cost_places : (n : ℕ) (gs : List Gate) → GatesOk n gs → length gs ≤ 128 → cost gs ≡ sizes_of (place_weights gs) + sizes_of (thresholds_of gs)
cost_places n gs o few =
    let a = weights_total n gs o few in
    let b = thresholds_total gs few in
    let c = cost_parts gs in
    omega (arith, a, b, c)
