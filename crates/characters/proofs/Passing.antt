-- What the loops over blanks keep: whatever the rest answers, the whole answers. Assumes nothing.
use mathlib.Core.Path.{◌≡◌, refl, sym, ap, subst⁻¹, ◌∙◌}
use mathlib.Core.Bool.{Bool, true, false}
use Prim.Native.Nat.{ℕ, zero, suc, ◌+◌, ◌-◌, ◌≤◌, ◌<◌}
use native.Mathlib.Omega.{arith}
use native.Mathlib.Numerals.{add-one}
use lib.ListN.{length, drop}
use borrow.Author.Tests.{eq-eqb, ne_eqb}
use Rattle.characters.specs.declared.place.Place.{Place}
use Rattle.characters.specs.declared.refusal.Refusal.TheVariants.{EndOfInput}
use Rattle.characters.specs.Answers.{taken, failed}
use Rattle.characters.specs.Text.{Text, byte_at, ByteOf, on_by, line_on, past, Stands, start}
use Rattle.characters.specs.PlaceLaws.{Advanced, Reached, reached_here, reached_on, advanced_reached, past_line, past_low, past_offset, on_by_stands}
use Rattle.characters.specs.Counts.{end_of}
use Rattle.characters.specs.CountLaws.{run_bytes}
use Rattle.characters.specs.Blanks.{is_blank, Mode, between, block, out, blanks, spaces, is_in_line, line_end, file_start}
use Rattle.characters.specs.BlankLaws.{pass_from, over_blank, spaces_on, spaces_end, over_spaces, opens_line, opens_block, deeper, closes, in_block, at_token, at_slash, unclosed, out_in, by_line, line_end_on, line_end_in, line_end_end, no_line, Closes, spaced, spaced_stands}
use Rattle.characters.proofs.Places.{ended, not_ended, byte_in, stepped}

-- ---- a line

-- what is left of the line leads to its end
pub record InLine (s : Text) (p₀ p : Place) : Type 0 where
  pub same : line_end (drop p.offset s) p ≡ line_end (drop p₀.offset s) p₀
  pub stands : Stands s p
  pub further : p₀.offset ≤ p.offset

module _ {s : Text} {p₀ p : Place} {b : ℕ} (v : InLine s p₀ p) (e : ByteOf s p.offset b) where
  -- no byte of the last line is LF
  in_last : length s ≤ end_of is_in_line s p₀.offset → (b ≡ 256 → ⊥) → b ≡ 10 → ⊥
  in_last l m n =
      let i = byte_in e (not_ended e m) in
      let r = (run_bytes is_in_line s p₀.offset p.offset v.further (omega arith)).1 in
      let z : ◌≡◌ {A = Bool} true false = sym r ∙ ap is_in_line (sym e.is) ∙ no_line b n in
      let w : ◌≡◌ {A = ℕ} 0 1 = cc in
      omega arith

  pub line_step : {q : Place} → length s ≤ end_of is_in_line s p₀.offset → (b ≡ 256 → ⊥) → q ≡ past b p → InLine s p₀ q
  line_step l m z =
      let a = stepped v.stands e (not_ended e m) z in
      let f : p₀.offset ≤ p.offset = v.further in
      record {
        same = ap (λ (x : Place). line_end (drop x.offset s) x) z ∙ sym (line_end_in s p b e.is (not_ended e m) (in_last l m)) ∙ v.same;
        stands = a.stands;
        further = omega arith;
      }

  pub line_out : b ≡ 256 → p ≡ line_end (drop p₀.offset s) p₀
  line_out n = sym (line_end_end s p (ended e n)) ∙ v.same

-- ---- a comment

-- inside the comment that opens at `at`, with d others around
pub record InBlock (s : Text) (at p : Place) (d : ℕ) : Type 0 where
  pub same : (x : Place) → pass_from s x (block d) p ≡ pass_from s x between at
  pub stands : Stands s p
  pub further : at.offset + 2 ≤ p.offset
  pub deep : d ≤ p.offset

-- two bytes stand here
pub two : {s : Text} {p q : Place} {c : ℕ} → Stands s p → ByteOf s (p.offset + 1) c → c < 256 → q ≡ on_by 2 p → (Reached s p q) × (p.offset + 2 ≤ q.offset)
two {s} {p} {q} {c} h f l z =
    let i : p.offset + 1 < length s = byte_in f l in
    let o : q.offset ≡ p.offset + 2 = ap (λ (x : Place). x.offset) z in
    (subst⁻¹ (λ (x : Place). Reached s p x) z (on_by_stands s 2 p h (omega arith)), omega arith)

pub block_opens : {s : Text} {at q : Place} → Stands s at → byte_at s at.offset ≡ 47 → byte_at s (at.offset + 1) ≡ 42 → q ≡ on_by 2 at → InBlock s at q 0
block_opens {s} {at} {q} h e f z =
    let g = Rattle.characters.specs.PlaceLaws.in_text s (at.offset + 1) (omega arith) in
    let o : q.offset ≡ at.offset + 2 = ap (λ (x : Place). x.offset) z in
    record {
      same = λ x. ap (pass_from s x (block zero)) z ∙ sym (opens_block s x at e f);
      stands = (subst⁻¹ (λ (x : Place). Reached s at x) z (on_by_stands s 2 at h (omega arith))).stands;
      further = omega arith;
      deep = omega arith;
    }

-- a byte that is no part of a sign
pub block_step : {s : Text} {at p q : Place} {d b : ℕ} → InBlock s at p d → ByteOf s p.offset b → b < 256 → (b ≡ 47 → byte_at s (p.offset + 1) ≡ 42 → ⊥) → (b ≡ 42 → byte_at s (p.offset + 1) ≡ 47 → ⊥) → q ≡ past b p → InBlock s at q d
block_step {s} {at} {p} {q} {d} {b} v e l f g z =
    let a = stepped v.stands e l z in
    let w : at.offset + 2 ≤ p.offset = v.further in
    let u : d ≤ p.offset = v.deep in
    record { same = λ x. ap (pass_from s x (block d)) z ∙ sym (in_block s x p d b e.is l f g) ∙ v.same x; stands = a.stands; further = omega arith; deep = omega arith }

-- a `/` or a `*` that is none either
pub block_sign : {s : Text} {at p q : Place} {d b c : ℕ} (y : ℕ) → InBlock s at p d → ByteOf s p.offset b → b ≡ 89 - y → ByteOf s (p.offset + 1) c → (c ≡ y → ⊥) → 42 ≤ y → y ≤ 47 → q ≡ on_by 1 p → InBlock s at q d
block_sign {s} {at} {p} {q} {d} {b} {c} y v e k f n lo hi z =
    block_step v e (omega arith) (λ h g. n (f.is ∙ g ∙ omega arith)) (λ h g. n (f.is ∙ g ∙ omega arith)) (z ∙ sym (past_low b p (λ h. omega arith) (omega arith)))

pub block_deeper : {s : Text} {at p q : Place} {d b c : ℕ} → InBlock s at p d → ByteOf s p.offset b → b ≡ 47 → ByteOf s (p.offset + 1) c → c ≡ 42 → q ≡ on_by 2 p → InBlock s at q (d + 1)
block_deeper {s} {at} {p} {q} {d} {b} {c} v e k f l z =
    let t = two v.stands f (omega arith) z in
    let t1 = t.1 in
    let w : at.offset + 2 ≤ p.offset = v.further in
    let u : d ≤ p.offset = v.deep in
    record {
      same = λ x. ap (λ (n : ℕ). pass_from s x (block n) q) (add-one d) ∙ ap (pass_from s x (block (suc d))) z ∙ sym (deeper s x p d (sym e.is ∙ k) (sym f.is ∙ l)) ∙ v.same x;
      stands = t.0.stands;
      further = omega arith;
      deep = omega arith;
    }

-- out of it
block_out : {s : Text} {at p q : Place} {d b c : ℕ} → InBlock s at p d → ByteOf s p.offset b → b ≡ 42 → ByteOf s (p.offset + 1) c → c ≡ 47 → q ≡ on_by 2 p → (x : Place) → pass_from s x (out d) q ≡ pass_from s x between at
block_out {s} {at} {p} {q} {d} {b} {c} v e k f l z x = ap (pass_from s x (out d)) z ∙ sym (closes s x p d (sym e.is ∙ k) (sym f.is ∙ l)) ∙ v.same x

pub block_less : {s : Text} {at p q : Place} {d b c : ℕ} → InBlock s at p d → ByteOf s p.offset b → b ≡ 42 → ByteOf s (p.offset + 1) c → c ≡ 47 → q ≡ on_by 2 p → (d ≡ 0 → ⊥) → InBlock s at q (d - 1)
block_less {s} {at} {p} {q} {d} {b} {c} v e k f l z n =
    let t = two v.stands f (omega arith) z in
    let t1 = t.1 in
    let w : at.offset + 2 ≤ p.offset = v.further in
    let u : d ≤ p.offset = v.deep in
    record {
      same = λ x. ap (λ (m : Mode). pass_from s x m q) (sym (out_in d n)) ∙ block_out v e k f l z x;
      stands = t.0.stands;
      further = omega arith;
      deep = omega arith;
    }

pub block_closed : {s : Text} {at p q : Place} {d b c : ℕ} → InBlock s at p d → ByteOf s p.offset b → b ≡ 42 → ByteOf s (p.offset + 1) c → c ≡ 47 → q ≡ on_by 2 p → d ≡ 0 → Closes s at (taken at q)
block_closed {s} {at} {p} {q} {d} {b} {c} v e k f l z n =
    let t = two v.stands f (omega arith) z in
    let t1 = t.1 in
    let w : at.offset + 2 ≤ p.offset = v.further in
    record { goes = (λ x. sym (block_out v e k f l z x) ∙ ap (λ (m : ℕ). pass_from s x (out m) q) n, record { stands = t.0.stands; further = omega arith }) }

pub block_fails : {s : Text} {at p : Place} {d b : ℕ} → InBlock s at p d → ByteOf s p.offset b → b ≡ 256 → Closes s at (failed EndOfInput p)
block_fails {s} {at} {p} {d} {b} v e k = record { goes = λ x. sym (v.same x) ∙ unclosed s x p d (ended e k) }

-- ---- spaces

-- those that are counted and those that are left are all
pub record InSpaces (s : Text) (from o : ℕ) : Type 0 where
  pub same : o + spaces s o ≡ from + spaces s from
  pub further : from ≤ o

module _ {s : Text} {o b : ℕ} (e : ByteOf s o b) where
  some_space : b ≡ 32 → spaces s o ≡ suc (spaces s (o + 1))
  some_space k = spaces_on s o (sym e.is ∙ k)

  pub space_step : {from : ℕ} → InSpaces s from o → b ≡ 32 → InSpaces s from (o + 1)
  space_step v k = let z = some_space k in record { same = omega arith; further = omega arith }

  pub space_out : {from : ℕ} → InSpaces s from o → (b ≡ 32 → ⊥) → o - from ≡ spaces s from
  space_out {from} v n = let z = spaces_end s o (λ h. n (e.is ∙ h)) in omega arith

  pub space_here : {n : ℕ} → b ≡ 32 → n ≡ spaces s o → 0 < n
  space_here k f = let z = some_space k in omega arith

-- ---- blanks

-- the blanks from p on are the rest of those from `at` on
pub record InBlanks (s : Text) (at p : Place) : Type 0 where
  pub same : pass_from s at between p ≡ blanks s at
  pub stands : Stands s p

pub blanks_begin : {s : Text} {at : Place} → Stands s at → InBlanks s at at
unfolding blanks
blanks_begin h = record { same = refl; stands = h }

pub blank_step : {s : Text} {at p q : Place} {b : ℕ} → InBlanks s at p → ByteOf s p.offset b → b < 256 → is_blank b ≡ true → q ≡ past b p → InBlanks s at q
blank_step {s} {at} {p} {q} {b} v e l k z = record { same = ap (pass_from s at between) z ∙ sym (over_blank s at p b e.is l k) ∙ v.same; stands = (stepped v.stands e l z).stands }

-- a blank that starts no line
pub blank_on : {s : Text} {at p q : Place} {b : ℕ} → InBlanks s at p → ByteOf s p.offset b → is_blank b ≡ true → b < 128 → (b ≡ 10 → ⊥) → q ≡ on_by 1 p → InBlanks s at q
blank_on {s} {at} {p} {q} {b} v e k l n z = blank_step v e (omega arith) k (z ∙ sym (past_low b p n l))

-- a run of spaces
pub blank_spaces : {s : Text} {at p q : Place} {n : ℕ} → InBlanks s at p → n ≡ spaces s p.offset → q ≡ on_by n p → InBlanks s at q
blank_spaces {s} {at} {p} v e z = record { same = ap (pass_from s at between) (spaced s p e z) ∙ sym (over_spaces s at p) ∙ v.same; stands = spaced_stands v.stands e z }

pub blank_line : {s : Text} {at p q : Place} {b : ℕ} → InBlanks s at p → ByteOf s p.offset b → b ≡ 10 → q ≡ line_on p → InBlanks s at q
blank_line {s} {at} {p} {q} {b} v e n z = blank_step v e (omega arith) (ap is_blank n) (z ∙ sym (past_line b p n))

pub comment_line : {s : Text} {at p q : Place} {b c : ℕ} → InBlanks s at p → ByteOf s p.offset b → b ≡ 47 → ByteOf s (p.offset + 1) c → c ≡ 47 → q ≡ line_end (drop p.offset s) p → (InBlanks s at q) × (Advanced s p q)
comment_line {s} {at} {p} {q} {b} {c} v e k f l z =
    let a = stepped v.stands e (omega arith) refl in
    let w : q ≡ line_end (drop (past b p).offset s) (past b p) = z ∙ line_end_in s p b e.is (omega arith) (λ h. omega arith) in
    let r : Reached s (past b p) q = subst⁻¹ (λ (x : Place). Reached s (past b p) x) w (line_end_on s (past b p) a.stands) in
    let i : p.offset < (past b p).offset = a.further in
    let j : (past b p).offset ≤ q.offset = r.further in (
      record { same = ap (pass_from s at between) z ∙ sym (by_line s at p) ∙ sym (opens_line s at p (sym e.is ∙ k) (sym f.is ∙ l)) ∙ v.same; stands = r.stands },
      record { stands = r.stands; further = omega arith },
    )

pub token_here : {s : Text} {at p : Place} {b : ℕ} → InBlanks s at p → ByteOf s p.offset b → is_blank b ≡ false → (b ≡ 47 → ⊥) → taken at p ≡ blanks s at
token_here {s} {at} {p} {b} v e k n = sym (at_token s at p b e.is k n) ∙ v.same

pub slash_here : {s : Text} {at p : Place} {b c : ℕ} → InBlanks s at p → ByteOf s p.offset b → b ≡ 47 → ByteOf s (p.offset + 1) c → (c ≡ 47 → ⊥) → (c ≡ 42 → ⊥) → taken at p ≡ blanks s at
slash_here {s} {at} {p} {b} {c} v e k f n m = sym (at_slash s at p (sym e.is ∙ k) (λ h. n (f.is ∙ h)) (λ h. m (f.is ∙ h))) ∙ v.same

-- ---- the file form

pub file_plain : (s : Text) (a : ℕ) → ByteOf s 0 a → (a ≡ 35 → ⊥) → file_start s ≡ start
unfolding file_start
file_plain s a e n = rw (ne_eqb (byte_at s 0) 35 (λ h. n (e.is ∙ h)), file_start) refl

pub file_hash : (s : Text) (a b : ℕ) → ByteOf s 0 a → a ≡ 35 → ByteOf s 1 b → (b ≡ 33 → ⊥) → file_start s ≡ start
unfolding file_start
file_hash s a b e m f n = rw (eq-eqb (byte_at s 0) 35 (sym e.is ∙ m), ne_eqb (byte_at s 1) 33 (λ h. n (f.is ∙ h)), file_start) refl

pub file_line : (s : Text) (a b : ℕ) → ByteOf s 0 a → a ≡ 35 → ByteOf s 1 b → b ≡ 33 → file_start s ≡ line_end s start
unfolding file_start
file_line s a b e m f n = rw (eq-eqb (byte_at s 0) 35 (sym e.is ∙ m), eq-eqb (byte_at s 1) 33 (sym f.is ∙ n), file_start) refl
