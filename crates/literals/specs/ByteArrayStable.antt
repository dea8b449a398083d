-- A bytearray is decided by its own bytes: where one is accepted, it is accepted in each text that has the same bytes there, whatever follows,
-- and holds the same bytes. Assumes nothing.
use Rattle.std.specs.Prelude.{◌≡◌, Bool, ◌&&◌, ◌||◌, ltb, Err, Ok, Result}
use Rattle.std.proofs.Math.Path.{refl, ap, subst, subst⁻¹}
use Rattle.std.proofs.Common.{sym, ◌∙◌}
use Rattle.std.proofs.Math.Bool.{true, false, not}
use mathlib.Core.List.{List, [], ◌∷◌}
use Prim.Native.Nat.{ℕ, zero, suc, ◌+◌, ◌-◌, ◌*◌, ◌≤◌, ◌<◌}
use native.Mathlib.Omega.{arith}
use Rattle.std.proofs.Math.Dec.{leb, eqb}
use Rattle.std.proofs.Math.ListN.{drop}
use borrow.Author.Tests.{ltb-true, ltb-false, eqb-true}
use Rattle.characters.specs.declared.place.Place.{Place}
use Rattle.characters.specs.declared.refusal.Refusal.TheVariants.{BadByteArray}
use Rattle.characters.specs.Text.{Text, byte_at, ByteOf, on_by, next, Stands}
use Rattle.characters.specs.Blanks.{blanks}
use Rattle.characters.specs.BlankLaws.{PassedOn, blanks_on, rest}
use Rattle.characters.specs.AlikeLaws.{Alike, AlikeIn, alike_sym, alike_rest, alike_none, alike_from, alike_in, alike_at}
use Rattle.characters.specs.BlankStable.{blanks_stable}
use Rattle.literals.specs.Numbers.{digit_of}
use Rattle.literals.specs.NumberLaws.{choice, same_branch}
use Rattle.literals.specs.Strings.{letter_of}
use Rattle.literals.specs.declared.bytearrays.Mode.{Mode}
use Rattle.literals.specs.declared.bytearrays.Mode.TheVariants.{Between, Ascii, Hex, Binary}
use Rattle.literals.specs.declared.bytearrays.Seen.TheVariants.{Byte, Opened, Shut}
use Rattle.literals.specs.ByteArrays.{opening_by, opening, outside_by, outside, past_blanks, between, mark_by, mark, slash_by, slash, line_end, printed, ascii_by, ascii, is_alphanumeric, pair_by, pair, hex, bit_of, bits, eight, binary, step, Contents, shut, halted, push, read, contents, span_by, bytearray, listed, bytes_of}
use Rattle.literals.specs.ByteArrayLaws.{alnum_under, pair_outside, bit_none, eight_none, SeenOn, step_on, pushed, read_on}
use Rattle.characters.specs.Answers.{Must, failed, taken, taken_next}
use Rattle.characters.specs.declared.refusal.Refused.{Refused}
use Rattle.literals.specs.declared.bytearrays.Seen.{Seen}

-- what was seen ends before the end of an accepted bytearray, or is that end
abbrev Near : ℕ → Result Seen Refused → Type 0
Near to (Ok (Byte v n q)) = q.offset < to
Near to (Ok (Opened n q)) = q.offset < to
Near to (Ok (Shut q)) = q.offset ≤ to
Near to (Err e) = ⊥

-- ---- which bytes a step looks at: they stand before that end

-- the byte at a place, and the next one too, unless the first is a `]`
record Ahead (s : Text) (to : ℕ) (p : Place) : Type 0 where
  one : p.offset < to
  two : (byte_at s p.offset ≡ 93 → ⊥) → p.offset + 1 < to

-- where the next one does, both do
ahead_two : {s : Text} {to : ℕ} {p : Place} → p.offset + 1 < to → Ahead s to p
ahead_two h = record { one = omega arith; two = λ n. h }

module _ (s : Text) (to : ℕ) where
  -- so at each place before such a one
  ahead_later : (p q : Place) → p.offset ≤ q.offset → Ahead s to q → Ahead s to p
  ahead_later p q l h = record { one = omega (arith, h.one); two = λ n. go n (ltb p.offset q.offset) refl }
    where
      go : (byte_at s p.offset ≡ 93 → ⊥) → (u : Bool) → ltb p.offset q.offset ≡ u → p.offset + 1 < to
      go n true u = omega (arith, h.one, ltb-true p.offset q.offset u)
      go n false u =
          let e : p.offset ≡ q.offset = omega (arith, ltb-false p.offset q.offset u) in
          omega (arith, h.two (λ x. n (ap (byte_at s) e ∙ x)))

  -- between runs
  opening_near : (p : Place) → Near to (opening s p) → p.offset + 2 < to
  unfolding opening
  opening_near p = choice P (eqb b 97) (λ x h. h) (λ x. choice P (eqb b 120) (λ x h. h) (λ x. choice P (eqb b 98) (λ x h. h) (λ x h. absurd h)))
    where
      b : ℕ
      b = byte_at s (p.offset + 1)

      P : Result Seen Refused → Type 0
      P x = Near to x → p.offset + 2 < to

  outside_near : (p : Place) → Near to (outside s p) → Ahead s to p
  unfolding outside
  outside_near p =
      choice P (eqb b 256) (λ x h. absurd h)
      (λ x. choice P (eqb b 93) (λ x h. record { one = omega arith; two = λ n. absurd (n (eqb-true b 93 x)) })
      (λ x. choice P (eqb b 92) (λ x h. ahead_two (omega (arith, opening_near p h))) (λ x h. absurd h)))
    where
      b : ℕ
      b = byte_at s p.offset

      P : Result Seen Refused → Type 0
      P x = Near to x → Ahead s to p

  -- past blanks, if so at the place after them
  past_blanks_near : (f : Place → Result Seen Refused) → ((q : Place) → Near to (f q) → Ahead s to q) → (p : Place) → Stands s p → Near to (past_blanks f (blanks s p)) → Ahead s to p
  past_blanks_near f near p st = go (blanks s p) (blanks_on s p st)
    where
      go : (m : Must) → PassedOn s p p m → Near to (past_blanks f m) → Ahead s to p
      go (Ok t) r k = ahead_later p t.next r.1.further (near t.next k)
      go (Err e) r k = absurd k

  between_near : (p : Place) → Stands s p → Near to (between s p) → Ahead s to p
  unfolding between
  between_near = past_blanks_near (outside s) outside_near

  -- in a run of `\a`
  module _ (p : Place) (st : Stands s p) where
    mark_near : (byte_at s p.offset ≡ 93 → ⊥) → Near to (mark s p) → p.offset + 1 < to
    unfolding mark
    mark_near n =
        choice P (ltb (letter_of b) 256) (λ x h. omega arith)
        (λ x. choice P (eqb b 120) (λ x h. (between_near p st h).two n) (λ x. choice P (eqb b 98) (λ x h. (between_near p st h).two n) (λ x h. absurd h)))
      where
        b : ℕ
        b = byte_at s (p.offset + 1)

        P : Result Seen Refused → Type 0
        P x = Near to x → p.offset + 1 < to

    slash_near : (byte_at s p.offset ≡ 93 → ⊥) → Near to (slash s p) → p.offset + 1 < to
    unfolding slash
    slash_near n = choice P (eqb b 47) (λ x h. (between_near p st h).two n) (λ x. choice P (eqb b 42) (λ x h. (between_near p st h).two n) (λ x h. h))
      where
        b : ℕ
        b = byte_at s (p.offset + 1)

        P : Result Seen Refused → Type 0
        P x = Near to x → p.offset + 1 < to

    ascii_near : (last : ℕ) → Near to (ascii s last p) → Ahead s to p
    unfolding ascii line_end printed
    ascii_near last =
        choice P (eqb b 92) (λ x h. ahead_two (mark_near (λ y. omega (arith, eqb-true b 92 x)) h))
        (λ x. choice P (eqb b 47) (λ x h. ahead_two (slash_near (λ y. omega (arith, eqb-true b 47 x)) h))
        (λ x. choice P (eqb b 13 || eqb b 10) (λ x. choice P (eqb last 32) (λ x h. absurd h) (λ x. between_near p st))
        (λ x. choice P (eqb b 9) (λ x h. absurd h)
        (λ x. choice P (leb 32 b && leb b 126 && not (eqb b 93)) (λ x h. ahead_two h) (λ x. between_near p st)))))
      where
        b : ℕ
        b = byte_at s p.offset

        P : Result Seen Refused → Type 0
        P x = Near to x → Ahead s to p

  -- in a run of `\x`
  pair_by_near : (p : Place) (h l : ℕ) → Near to (pair_by s p h l) → p.offset + 2 < to
  pair_by_near p h l = choice (λ x. Near to x → p.offset + 2 < to) (ltb h 16 && ltb l 16) (λ x k. k) (λ x k. absurd k)

  pair_near : (p : Place) → Near to (pair s p) → Ahead s to p
  unfolding pair
  pair_near p = choice (λ x. Near to x → Ahead s to p) (is_alphanumeric b) (λ x k. ahead_two (omega (arith, pair_by_near p (digit_of b) (digit_of c) k))) (λ x. outside_near p)
    where
      b : ℕ
      b = byte_at s p.offset

      c : ℕ
      c = byte_at s (p.offset + 1)

  -- in a run of `\b`, all bits that are still to come
  bits_near : (left v : ℕ) (p : Place) → Near to (bits left v s p) → p.offset + left < to
  unfolding bits
  bits_near zero v p = λ h. omega arith
  bits_near (suc left) v p =
      choice (λ x. Near to x → p.offset + suc left < to) (ltb d 2) (λ x h. omega (arith, bits_near left (v * 2 + d) (on_by 1 p) h)) (λ x h. absurd h)
    where
      d : ℕ
      d = bit_of (byte_at s p.offset)

  eight_near : (p : Place) → Near to (eight s p) → Ahead s to p
  unfolding eight
  eight_near p = choice (λ x. Near to x → Ahead s to p) (ltb (bit_of (byte_at s p.offset)) 2) (λ x h. ahead_two (omega (arith, bits_near 8 0 p h))) (λ x. outside_near p)

  -- ---- behind blanks no `/` is accepted

  outside_slash : (p : Place) → Near to (outside s p) → byte_at s p.offset ≡ 47 → ⊥
  unfolding outside
  outside_slash p h e = subst (Near to) (ap (outside_by s p) e) h

  a_slash : (p : Place) → byte_at s p.offset ≡ 47 → ByteOf s p.offset 47
  a_slash p e = record { is = sym e; inside = λ l. omega arith }

  pair_slash : (p : Place) → Near to (pair s p) → byte_at s p.offset ≡ 47 → ⊥
  pair_slash p h e = outside_slash p (subst⁻¹ (Near to) (pair_outside s p (a_slash p e) (sym (alnum_under 47 (omega arith)))) h) e

  eight_slash : (p : Place) → Near to (eight s p) → byte_at s p.offset ≡ 47 → ⊥
  eight_slash p h e = outside_slash p (subst⁻¹ (Near to) (eight_none s p (a_slash p e) (bit_none 47 (λ z. omega arith) (λ z. omega arith)) (omega arith)) h) e

-- ---- each step is the same in a text that is alike so far

module _ (s t : Text) (from to : ℕ) (a : AlikeIn from to s t) where
  -- the bytes that a step looks at are the same
  same : (o : ℕ) → from ≤ o → o < to → byte_at s o ≡ byte_at t o
  same o h k = alike_at o h k a

  -- between runs
  opening_by_lem : (p : Place) (b : ℕ) → Near to (opening_by s p b) → opening_by s p b ≡ opening_by t p b
  opening_by_lem p b =
      same_branch (Near to) (eqb b 97) (λ e h. refl)
      (λ e. same_branch (Near to) (eqb b 120) (λ e h. refl) (λ e. same_branch (Near to) (eqb b 98) (λ e h. refl) (λ e h. absurd h)))

  opening_stable : (p : Place) → from ≤ p.offset → Near to (opening s p) → opening s p ≡ opening t p
  unfolding opening
  opening_stable p f h = opening_by_lem p (byte_at s (p.offset + 1)) h ∙ ap (opening_by t p) (same (p.offset + 1) (omega arith) (omega (arith, opening_near s to p h)))

  outside_by_lem : (p : Place) (b : ℕ) → from ≤ p.offset → Near to (outside_by s p b) → outside_by s p b ≡ outside_by t p b
  outside_by_lem p b f =
      same_branch (Near to) (eqb b 256) (λ e h. absurd h)
      (λ e. same_branch (Near to) (eqb b 93) (λ e h. refl) (λ e. same_branch (Near to) (eqb b 92) (λ e. opening_stable p f) (λ e h. absurd h)))

  outside_stable : (p : Place) → from ≤ p.offset → Near to (outside s p) → outside s p ≡ outside t p
  unfolding outside
  outside_stable p f h = outside_by_lem p (byte_at s p.offset) f h ∙ ap (outside_by t p) (same p.offset f (outside_near s to p h).one)

  -- past blanks, if what follows them is the same, and is no `/`
  past_blanks_stable : (f : Text → Place → Result Seen Refused)
      → ((q : Place) → Near to (f s q) → Ahead s to q)
      → ((q : Place) → Near to (f s q) → byte_at s q.offset ≡ 47 → ⊥)
      → ((q : Place) → from ≤ q.offset → Near to (f s q) → f s q ≡ f t q)
      → (p : Place) → Stands s p → from ≤ p.offset
      → Near to (past_blanks (f s) (blanks s p))
      → past_blanks (f s) (blanks s p) ≡ past_blanks (f t) (blanks t p)
  past_blanks_stable f near no_slash stable p st l = go (blanks s p) refl (blanks_on s p st)
    where
      go : (m : Must) → blanks s p ≡ m → PassedOn s p p m → Near to (past_blanks (f s) m) → past_blanks (f s) m ≡ past_blanks (f t) (blanks t p)
      go (Ok y) e r k =
          let o : p.offset ≤ y.next.offset = r.1.further in
          let n : y.next.offset < to = (near y.next k).one in
          stable y.next (omega arith) k
          ∙ ap (past_blanks (f t)) (sym (blanks_stable s t p y.here y.next st (alike_in l (omega arith) (omega arith) a) (λ x. absurd (no_slash y.next k x)) e))
      go (Err f) e r k = absurd k

  between_stable : (p : Place) → Stands s p → from ≤ p.offset → Near to (between s p) → between s p ≡ between t p
  unfolding between
  between_stable = past_blanks_stable outside (outside_near s to) (outside_slash s to) outside_stable

  -- in a run of `\a`
  module _ (p : Place) (st : Stands s p) (f : from ≤ p.offset) where
    mark_by_lem : (b : ℕ) → Near to (mark_by s p b) → mark_by s p b ≡ mark_by t p b
    mark_by_lem b =
        same_branch (Near to) (ltb (letter_of b) 256) (λ e h. refl)
        (λ e. same_branch (Near to) (eqb b 120) (λ e. between_stable p st f) (λ e. same_branch (Near to) (eqb b 98) (λ e. between_stable p st f) (λ e h. absurd h)))

    mark_stable : (byte_at s p.offset ≡ 93 → ⊥) → Near to (mark s p) → mark s p ≡ mark t p
    unfolding mark
    mark_stable n h = mark_by_lem (byte_at s (p.offset + 1)) h ∙ ap (mark_by t p) (same (p.offset + 1) (omega arith) (mark_near s to p st n h))

    slash_by_lem : (b : ℕ) → Near to (slash_by s p b) → slash_by s p b ≡ slash_by t p b
    slash_by_lem b = same_branch (Near to) (eqb b 47) (λ e. between_stable p st f) (λ e. same_branch (Near to) (eqb b 42) (λ e. between_stable p st f) (λ e h. refl))

    slash_stable : (byte_at s p.offset ≡ 93 → ⊥) → Near to (slash s p) → slash s p ≡ slash t p
    unfolding slash
    slash_stable n h = slash_by_lem (byte_at s (p.offset + 1)) h ∙ ap (slash_by t p) (same (p.offset + 1) (omega arith) (slash_near s to p st n h))

    ascii_by_lem : (last b : ℕ) → b ≡ byte_at s p.offset → Near to (ascii_by s last p b) → ascii_by s last p b ≡ ascii_by t last p b
    unfolding line_end printed
    ascii_by_lem last b e =
        same_branch (Near to) (eqb b 92) (λ x. mark_stable (λ y. omega (arith, eqb-true b 92 x)))
        (λ x. same_branch (Near to) (eqb b 47) (λ x. slash_stable (λ y. omega (arith, eqb-true b 47 x)))
        (λ x. same_branch (Near to) (eqb b 13 || eqb b 10) (λ x. same_branch (Near to) (eqb last 32) (λ x h. absurd h) (λ x. between_stable p st f))
        (λ x. same_branch (Near to) (eqb b 9) (λ x h. absurd h)
        (λ x. same_branch (Near to) (leb 32 b && leb b 126 && not (eqb b 93)) (λ x h. refl) (λ x. between_stable p st f)))))

    ascii_stable : (last : ℕ) → Near to (ascii s last p) → ascii s last p ≡ ascii t last p
    unfolding ascii
    ascii_stable last h = ascii_by_lem last (byte_at s p.offset) refl h ∙ ap (ascii_by t last p) (same p.offset f (ascii_near s to p st last h).one)

  -- in a run of `\x`
  pair_by_stable : (p : Place) (h l : ℕ) → Near to (pair_by s p h l) → pair_by s p h l ≡ pair_by t p h l
  pair_by_stable p h l = same_branch (Near to) (ltb h 16 && ltb l 16) (λ x k. refl) (λ x k. absurd k)

  pair_stable : (p : Place) → from ≤ p.offset → Near to (pair s p) → pair s p ≡ pair t p
  unfolding pair
  pair_stable p f h =
      same_branch (Near to) (is_alphanumeric b) {y = pair_by t p (digit_of b) (digit_of (byte_at t (p.offset + 1)))} {z = outside t p}
      (λ x k.
      pair_by_stable p (digit_of b) (digit_of c) k
      ∙ ap (λ (y : ℕ). pair_by t p (digit_of b) (digit_of y)) (same (p.offset + 1) (omega arith) (omega (arith, pair_by_near s to p (digit_of b) (digit_of c) k))))
      (λ x. outside_stable p f)
      h
      ∙ ap (λ (y : ℕ). elim (is_alphanumeric y) as (λ u. Result Seen Refused) [ true ↦ pair_by t p (digit_of y) (digit_of (byte_at t (p.offset + 1))) | false ↦ outside t p ])
      (same p.offset f (pair_near s to p h).one)
    where
      b : ℕ
      b = byte_at s p.offset

      c : ℕ
      c = byte_at s (p.offset + 1)

  -- in a run of `\b`
  bits_stable : (left v : ℕ) (p : Place) → from ≤ p.offset → Near to (bits left v s p) → bits left v s p ≡ bits left v t p
  unfolding bits
  bits_stable zero v p f h = refl
  bits_stable (suc left) v p f h =
      same_branch (Near to) (ltb d 2) {y = bits left (v * 2 + d) t (on_by 1 p)} {z = failed BadByteArray (next t p)}
      (λ x. bits_stable left (v * 2 + d) (on_by 1 p) (omega arith))
      (λ x k. absurd k)
      h
      ∙ ap (λ (b : ℕ). elim (ltb (bit_of b) 2) as (λ u. Result Seen Refused) [ true ↦ bits left (v * 2 + bit_of b) t (on_by 1 p) | false ↦ failed BadByteArray (next t p) ])
      (same p.offset f (omega (arith, bits_near s to (suc left) v p h)))
    where
      d : ℕ
      d = bit_of (byte_at s p.offset)

  eight_stable : (p : Place) → from ≤ p.offset → Near to (eight s p) → eight s p ≡ eight t p
  unfolding eight
  eight_stable p f h =
      same_branch (Near to) (ltb (bit_of (byte_at s p.offset)) 2) {y = bits 8 0 t p} {z = outside t p} (λ x. bits_stable 8 0 p f) (λ x. outside_stable p f) h
      ∙ ap (λ (b : ℕ). elim (ltb (bit_of b) 2) as (λ u. Result Seen Refused) [ true ↦ bits 8 0 t p | false ↦ outside t p ]) (same p.offset f (eight_near s to p h).one)

  -- in any mode
  step_stable : (m : Mode) (last : ℕ) (p : Place) → Stands s p → from ≤ p.offset → Near to (step s m last p) → step s m last p ≡ step t m last p
  unfolding step hex binary
  step_stable Between last p st f = between_stable p st f
  step_stable Ascii last p st f = ascii_stable p st f last
  step_stable Hex last p st f = past_blanks_stable pair (pair_near s to) (pair_slash s to) pair_stable p st f
  step_stable Binary last p st f = past_blanks_stable eight (eight_near s to) (eight_slash s to) eight_stable p st f

-- ---- the whole

module _ (s t : Text) (from : ℕ) (q : Place) (a : AlikeIn from q.offset s t) where
  -- the rest of a bytearray, where so many bytes are alike that it ends in them
  read_stable : (l r : Text) (k left o : ℕ) (m : Mode) (last : ℕ) (p : Place) (x : List ℕ)
      → l ≡ drop o s
      → from ≤ o
      → o + left ≡ p.offset
      → Stands s p
      → Alike k l r
      → q.offset ≤ o + k
      → read s left l m last p ≡ shut q x
      → read t left r m last p ≡ shut q x
  unfolding read
  read_stable l r zero left o m last p x z f i st b n e = absurd (omega (arith, (read_on s q l left o m last p x z i st e).further))
  read_stable [] [] (suc k) left o m last p x z f i st b n e = e
  read_stable [] (c ∷ r) (suc k) left o m last p x z f i st b n e = alike_none (alike_sym b)
  read_stable (d ∷ l) [] (suc k) left o m last p x z f i st b n e = alike_none b
  read_stable (d ∷ l) (c ∷ r) (suc k) (suc left) o m last p x z f i st b n e = read_stable l r k left (o + 1) m last p x (rest s o d l z).1 (omega arith) (omega arith) st (alike_rest b) (omega arith) e
  read_stable (d ∷ l) (c ∷ r) (suc k) zero o m last p x z f i st b n e =
      go (step s m last p) refl (step_on s m last p st)
      (λ left m last p x i st. read_stable l r k left (o + 1) m last p x after (omega arith) i st (alike_rest b) (omega arith))
      e
    where
      after : l ≡ drop (o + 1) s
      after = (rest s o d l z).1

      steps : (g : Result Seen Refused) → step s m last p ≡ g → Near q.offset g → step t m last p ≡ g
      steps g w h = sym (step_stable s t from q.offset a m last p st (omega arith) (subst⁻¹ (Near q.offset) w h)) ∙ w

      go : (g : Result Seen Refused) → step s m last p ≡ g → SeenOn s p g
          → ((left : ℕ) (m : Mode) (last : ℕ) (p : Place) (x : List ℕ) → o + 1 + left ≡ p.offset → Stands s p → read s left l m last p ≡ shut q x → read t left r m last p ≡ shut q x)
          → elim g as (λ u. Contents) [
            | Ok (Byte v n p') ↦ push v (read s (p'.offset - (p.offset + 1)) l n v p')
            | Ok (Opened n p') ↦ read s (p'.offset - (p.offset + 1)) l n last p'
            | Ok (Shut p') ↦ shut p' []
            | Err e ↦ halted e.refusal e.at
          ] ≡ shut q x
          → read t zero (c ∷ r) m last p ≡ shut q x
      go (Ok (Byte v n p')) w g ih e =
          let j = p'.offset - (p.offset + 1) in
          let u : p.offset < p'.offset = g.1.further in
          let y = pushed v (read s j l n v p') q x e in
          let h = (read_on s q l j (o + 1) n v p' y.0 after (omega arith) g.1.stands y.1).further in
          rw (steps (Ok (Byte v n p')) w h, read) (ap (push v) (ih j n v p' y.0 (omega arith) g.1.stands y.1) ∙ sym (ap (push v) y.1) ∙ e)
      go (Ok (Opened n p')) w g ih e =
          let j = p'.offset - (p.offset + 1) in
          let u : p.offset < p'.offset = g.further in
          let h = (read_on s q l j (o + 1) n last p' x after (omega arith) g.stands e).further in
          rw (steps (Ok (Opened n p')) w h, read) (ih j n last p' x (omega arith) g.stands e)
      go (Ok (Shut p')) w g ih e =
          let y : p' ≡ q = cc in
          let h : p'.offset ≤ q.offset = omega (arith, ap (λ (u : Place). u.offset) y) in
          rw (steps (Ok (Shut p')) w h, read) e
      go (Err f) w g ih e = let v : ◌≡◌ {A = ℕ} 0 1 = cc in absurd (omega arith)

-- the bytes of a bytearray, and the place after it
pub contents_stable : (s t : Text) (p q : Place) (x : List ℕ)
    → Stands s p
    → AlikeIn p.offset q.offset s t
    → contents s p ≡ shut q x
    → contents t p ≡ shut q x
unfolding contents
contents_stable s t p q x st a e =
    read_stable s t p.offset q a (drop p.offset s) (drop p.offset t) (q.offset - p.offset) 0 p.offset Between 256 p x refl (omega arith) (omega arith) st (alike_from a) (omega arith) e

-- a bytearray of one text is a bytearray of the other, with the same bytes
pub bytearray_stable : (s t : Text) (p h q : Place)
    → Stands s p
    → AlikeIn p.offset q.offset s t
    → bytearray s p ≡ taken h q
    → (bytearray t p ≡ taken h q) × (bytes_of t p ≡ bytes_of s p)
unfolding bytearray bytes_of
bytearray_stable s t p h q st a e = go (contents s p) refl e
  where
    go : (c : Contents) → contents s p ≡ c → span_by p c ≡ taken h q → (span_by p (contents t p) ≡ taken h q) × (listed (contents t p) ≡ listed (contents s p))
    go (shut r x) z e =
        let y = taken_next e in
        let w = contents_stable s t p q x st a (z ∙ ap (λ (k : Place). shut k x) y) ∙ ap (λ (k : Place). shut k x) (sym y) in
        (ap (span_by p) w ∙ e, ap listed w ∙ ap listed (sym z))
    go (halted k r) z e = let v : ◌≡◌ {A = ℕ} 0 1 = cc in absurd (omega arith)
