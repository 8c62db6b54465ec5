-- The first high byte stands right behind the run of data bytes, lists that compare as the same are the same, and framed bytes are F0, a body and F7.
use Rattle.std.specs.Prelude.{None, Option, Some}
use mathlib.Core.Path.{◌≡◌, refl, ap, ap₂, sym, ◌∙◌}
use mathlib.Core.Bool.{Bool, true, false, ◌&&◌}
use mathlib.Core.List.{List, [], ◌∷◌, ◌++◌}
use Prim.Native.Nat.{ℕ, suc, ◌-◌, ◌≤◌, ◌<◌}
use native.Mathlib.Omega.{arith}
use lib.Dec.{ltb, leb, eqb}
use lib.ListN.{length, get_or, take, length-append}
use lib.Seq.{ext_get_or, get_or_at, take-suc, take_all, take_at}
use borrow.Author.Tests.{lt-ltb, le-ltb, le-leb, leb-true, eqb-true}
use Rattle.laws.specs.Choice.{pick}
use Rattle.laws.specs.Tabulate.{tab}
use Rattle.laws.proofs.Tabulate.{length_tab, get_or_tab}
use Rattle.laws.proofs.Tests.{both}
use Rattle.octets.specs.quick.Data.{data_run}
use Rattle.octets.proofs.data_bytes.Runs.{run_none, by_byte}
use Rattle.refusal.specs.Outcome.{Outcome, gives}
use Rattle.refusal.proofs.Given.{given_not_refused}
use Rattle.refusal.proofs.Numbered.{numbered}
use Rattle.framing.specs.Framing.{framed, body, first_high, unless_high, same_bytes}

-- the first high byte stands right behind the run of data bytes
pub high_behind : (l : List ℕ) → data_run l < length l → first_high l ≡ Some (get_or l (data_run l) 0)
high_behind [] h = absurd (omega (arith, run_none, h))
high_behind (b ∷ l) h =
    by_byte b l (λ low e. rw (e, lt-ltb b 0x80 low) (high_behind l (omega (arith, e, h)))) (λ high e. rw (e, le-ltb b 0x80 high))

pub high_nowhere : (l : List ℕ) → length l ≤ data_run l → first_high l ≡ None
high_nowhere [] h = refl
high_nowhere (b ∷ l) h =
    by_byte b l (λ low e. rw (lt-ltb b 0x80 low) (high_nowhere l (omega (arith, e, h)))) (λ _ e. absurd (omega (arith, e, h)))

-- the first high byte of two lists, one behind the other, is the second's where the first has none
pub high_append : (l k : List ℕ) → first_high l ≡ None → first_high (l ++ k) ≡ first_high k
high_append [] k h = refl
high_append (b ∷ l) k h = go (ltb b 0x80) h (high_append l k)
  where
    go : (t : Bool) → pick t (first_high l) (Some b) ≡ None → (first_high l ≡ None → first_high (l ++ k) ≡ first_high k)
        → pick t (first_high (l ++ k)) (Some b) ≡ first_high k
    go true g rest = rest g
    go false g rest = let z : ◌≡◌ {A = ℕ} 0 1 = cc in absurd (omega arith)

pub high_first : (l k : List ℕ) (b : ℕ) → first_high l ≡ Some b → first_high (l ++ k) ≡ Some b
high_first [] k b h = let z : ◌≡◌ {A = ℕ} 0 1 = cc in absurd (omega arith)
high_first (x ∷ l) k b h = go (ltb x 0x80) h (high_first l k b)
  where
    go : (t : Bool) → pick t (first_high l) (Some x) ≡ Some b → (first_high l ≡ Some b → first_high (l ++ k) ≡ Some b)
        → pick t (first_high (l ++ k)) (Some x) ≡ Some b
    go true g rest = rest g
    go false g rest = g

-- lists that compare as the same are the same
pub same_is : (l k : List ℕ) → same_bytes l k ≡ true → l ≡ k
same_is [] [] h = refl
same_is [] (y ∷ ys) h = let z : ◌≡◌ {A = ℕ} 0 1 = cc in absurd (omega arith)
same_is (x ∷ xs) [] h = let z : ◌≡◌ {A = ℕ} 0 1 = cc in absurd (omega arith)
same_is (x ∷ xs) (y ∷ ys) h = ap₂ (λ (z : ℕ) (zs : List ℕ). z ∷ zs) (eqb-true x y (both (eqb x y) (same_bytes xs ys) h).0) (same_is xs ys (both (eqb x y) (same_bytes xs ys) h).1)

-- a list spelled out byte by byte
pub spelled : (l : List ℕ) (n : ℕ) → length l ≡ n → l ≡ tab (λ i. get_or l i 0) n
spelled l n e =
    ext_get_or 0 l (tab (λ i. get_or l i 0) n) (e ∙ sym (length_tab (λ i. get_or l i 0) n)) (λ i h. sym (get_or_tab (λ k. get_or l k 0) n i 0 (omega arith)))

-- what was given had no high byte
pub no_high : {A : Type 0} (high : Option ℕ) (next : Outcome A) (a : A) → unless_high high next ≡ gives a → (high ≡ None) × (next ≡ gives a)
no_high None next a e = (refl, e)
no_high (Some b) next a e = absurd (given_not_refused a 2 (b ∷ []) e)

-- 2 has a number of the table
pub high_numbered : {A : Type 0} (high : Option ℕ) (next : Outcome A) → numbered next ≡ true → numbered (unless_high high next) ≡ true
high_numbered None next h = h
high_numbered (Some b) next h = refl

-- no high byte in two lists: none in the second
pub high_none_behind : (l k : List ℕ) → first_high (l ++ k) ≡ None → first_high k ≡ None
high_none_behind [] k h = h
high_none_behind (b ∷ l) k h = go (ltb b 0x80) h (high_none_behind l k)
  where
    go : (t : Bool) → pick t (first_high (l ++ k)) (Some b) ≡ None → (first_high (l ++ k) ≡ None → first_high k ≡ None) → first_high k ≡ None
    go true g rest = rest g
    go false g rest = let z : ◌≡◌ {A = ℕ} 0 1 = cc in absurd (omega arith)

-- a list that ends with its last element
ends_with : (l : List ℕ) (n : ℕ) → length l ≡ suc n → l ≡ take n l ++ (get_or l n 0 ∷ [])
ends_with l n e =
    let all : length l ≤ suc n = omega arith in
    let last : n < length l = omega arith in
    sym (take_all (suc n) l all) ∙ take-suc l n 0 last

-- the body of F0, such bytes and F7
pub body_is : (xs : List ℕ) → body (0xF0 ∷ xs ++ (0xF7 ∷ [])) ≡ xs
body_is xs = take_at xs (0xF7 ∷ []) (length (0xF0 ∷ xs ++ (0xF7 ∷ [])) - 2) (omega (arith, length-append xs (0xF7 ∷ [])))

-- F0, a body and F7 are framed
pub ends_framed : (xs : List ℕ) → framed (0xF0 ∷ xs ++ (0xF7 ∷ [])) ≡ true
ends_framed xs =
    let bytes : List ℕ = 0xF0 ∷ xs ++ (0xF7 ∷ []) in
    let size : length (0xF0 ∷ xs) ≡ length bytes - 1 = omega (arith, length-append xs (0xF7 ∷ [])) in
    let long : 2 ≤ length bytes = omega (arith, length-append xs (0xF7 ∷ [])) in
    rw (le-leb 2 (length bytes) long, get_or_at (0xF0 ∷ xs) 0xF7 [] 0 (length bytes - 1) size)

-- framed bytes are F0, their body and F7
pub framed_is : (bytes : List ℕ) → framed bytes ≡ true → bytes ≡ 0xF0 ∷ body bytes ++ (0xF7 ∷ [])
framed_is [] h = let z : ◌≡◌ {A = ℕ} 0 1 = cc in absurd (omega arith)
framed_is (x ∷ rest) h =
    let outer = both (leb 2 (length (x ∷ rest)) && eqb x 0xF0) (eqb (get_or (x ∷ rest) (length (x ∷ rest) - 1) 0) 0xF7) h in
    let inner = both (leb 2 (length (x ∷ rest))) (eqb x 0xF0) outer.0 in
    let long : 2 ≤ length (x ∷ rest) = leb-true 2 (length (x ∷ rest)) inner.0 in
    let first : x ≡ 0xF0 = eqb-true x 0xF0 inner.1 in
    let n = length (x ∷ rest) - 2 in
    let place : length (x ∷ rest) - 1 ≡ suc n = omega arith in
    let last : get_or rest n 0 ≡ 0xF7 =
    ap (λ (k : ℕ). get_or (x ∷ rest) k 0) (sym place) ∙ eqb-true (get_or (x ∷ rest) (length (x ∷ rest) - 1) 0) 0xF7 outer.1 in
    ap₂ (λ (a : ℕ) (l : List ℕ). a ∷ l) first
    (ends_with rest n (omega arith) ∙ ap (λ (b : ℕ). take n rest ++ (b ∷ [])) last)
