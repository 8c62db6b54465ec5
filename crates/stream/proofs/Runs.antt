-- A run of data bytes may be taken at once, because each of them does the same: in an open frame it is stored behind the last, and with no
-- status in force it changes nothing.
use Rattle.std.specs.Prelude.{None, Option}
use mathlib.Core.Path.{◌≡◌, refl, sym, ◌∙◌, ap, ap₂}
use mathlib.Core.Bool.{true, false}
use mathlib.Core.List.{List, [], ◌∷◌}
use Prim.Native.Nat.{ℕ, zero, suc, ◌+◌, ◌≤◌, ◌<◌}
use native.Mathlib.Nat.{add-zero, zero-add}
use native.Mathlib.Omega.{arith}
use lib.ListN.{length, take, drop, set, length-take, length-set}
use Rattle.laws.specs.Window.{window}
use Rattle.laws.proofs.Window.{window_none, window_more, window_after}
use Rattle.octets.specs.quick.Data.{data_run}
use Rattle.octets.proofs.data_bytes.Runs.{run_none, by_byte}
use Rattle.decoder.specs.declared.Decoder.{Decoder}
use Rattle.decoder.specs.declared.Class.TheVariants as k
use Rattle.decoder.specs.State.{limit}
use Rattle.decoder.specs.Step.{step, stored, silent, longer, collect}
use Rattle.decoder.specs.Call.{Walked, walk, further}
use Rattle.decoder.proofs.Classes.{class_is}
use Rattle.decoder.proofs.Steps.{data_fits, data_plain, step_by}
use Rattle.decoder.proofs.Walking.{counted}

pub more_further : (m n : ℕ) (w : Walked) → further m (further n w) ≡ further (m + n) w
more_further m n w = ap (counted w) (omega arith)

one_ahead : (n : ℕ) (w : Walked) → further 1 (further n w) ≡ further (suc n) w
one_ahead n w = ap (counted w) (omega arith)

-- a walk that is no byte further is the same walk
pub none_further : (w : Walked) → further 0 w ≡ w
none_further w = ap (counted w) (zero-add w.fed.used)

-- a byte that reports nothing leads from one state and store to another
pub quiet_byte : (d e : Decoder) (store kept : List ℕ) (b : ℕ) (bs : List ℕ) → silent e ≡ step d b → kept ≡ stored d store b
    → walk d store (b ∷ bs) ≡ further 1 (walk e kept bs)
unfolding walk
quiet_byte d e store kept b bs p q = rw (← p, ← q)

-- one byte stored, and a stretch right behind it
stored_one : (store : List ℕ) (at b : ℕ) → at < length store → set store at b ≡ window store at (b ∷ [])
stored_one store at b h =
    ap (λ (l : List ℕ). set l at b) (sym (window_none store at)) ∙ window_more store at [] b at (omega arith) h

stored_ahead : (store : List ℕ) (at b : ℕ) (xs : List ℕ) → at + suc (length xs) ≤ length store → window (set store at b) (at + 1) xs ≡ window store at (b ∷ xs)
stored_ahead store at b xs h =
    ap (λ (l : List ℕ). window l (at + 1) xs) (stored_one store at b (omega arith)) ∙ window_after store at (b ∷ []) xs (at + 1) (omega arith) (omega arith)

take_no_more : (n : ℕ) (l : List ℕ) → length (take n l) ≤ n
take_no_more n l = simp length-take (omega arith)

-- an open frame of n bytes with these data bytes
abbrev pub open_frame : ℕ → ℕ → ℕ → Decoder
open_frame n a z = record { in_sysex = true; len = n; status = None; have = 0; data0 = a; data1 = z }

-- a data byte in an open frame that has room is stored behind the last
frame_byte : (at a z : ℕ) (store : List ℕ) (b : ℕ) (bs : List ℕ) → at < limit → b < 0x80
    → walk (open_frame at a z) store (b ∷ bs) ≡ further 1 (walk (open_frame (at + 1) a z) (set store at b) bs)
frame_byte at a z store b bs l low =
    let d = open_frame at a z in
    let eqs = data_fits d store b refl l in
    let steps = step_by k.Data d store b (class_is b k.Data low) (silent (longer d)) (set store at b) (sym eqs.0) (sym eqs.1) in
    quiet_byte d (longer d) store (set store at b) b bs steps.0 steps.1

pub frame_run : (n at a z : ℕ) (store bytes : List ℕ) → n ≤ data_run bytes → at + n ≤ limit → limit ≤ length store
    → walk (open_frame at a z) store bytes ≡ further n (walk (open_frame (at + n) a z) (window store at (take n bytes)) (drop n bytes))
frame_run zero at a z store bytes h l room =
    sym (none_further _ ∙ ap₂ (λ (n : ℕ) (x : List ℕ). walk (open_frame n a z) x bytes) (add-zero at) (window_none store at))
frame_run (suc n) at a z store [] h l room = absurd (omega (arith, run_none, h))
frame_run (suc n) at a z store (b ∷ bs) h l room =
    by_byte b bs
    (λ low e. frame_byte at a z store b bs (omega arith) low
    ∙ ap (further 1) (frame_run n (at + 1) a z (set store at b) bs (omega (arith, e, h)) (omega arith) (rw (length-set store at b) room))
    ∙ one_ahead n _
    ∙ ap₂ (λ (m : ℕ) (x : List ℕ). further (suc n) (walk (open_frame m a z) x (drop n bs))) (omega arith)
    (stored_ahead store at b (take n bs) (omega (arith, take_no_more n bs))))
    (λ _ e. absurd (omega (arith, e, h)))

-- a data byte with no status in force changes nothing
stray_byte : (d : Decoder) (store : List ℕ) (b : ℕ) (bs : List ℕ) → d.in_sysex ≡ false → d.status ≡ None → b < 0x80
    → walk d store (b ∷ bs) ≡ further 1 (walk d store bs)
stray_byte d store b bs p q low =
    let eqs = data_plain d store b p in
    let nothing : silent d ≡ collect d.status d b = ap (λ (x : Option ℕ). collect x d b) (sym q) in
    let steps = step_by k.Data d store b (class_is b k.Data low) (silent d) store (nothing ∙ sym eqs.0) (sym eqs.1) in
    quiet_byte d d store store b bs steps.0 steps.1

pub stray_run : (n : ℕ) (d : Decoder) (store bytes : List ℕ) → d.in_sysex ≡ false → d.status ≡ None → n ≤ data_run bytes
    → walk d store bytes ≡ further n (walk d store (drop n bytes))
stray_run zero d store bytes p q h = sym (none_further _)
stray_run (suc n) d store [] p q h = absurd (omega (arith, run_none, h))
stray_run (suc n) d store (b ∷ bs) p q h =
    by_byte b bs
    (λ low e. stray_byte d store b bs p q low ∙ ap (further 1) (stray_run n d store bs p q (omega (arith, e, h))) ∙ one_ahead n _)
    (λ _ e. absurd (omega (arith, e, h)))
