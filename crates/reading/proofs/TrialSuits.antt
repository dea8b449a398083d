-- The small grammar suits: each routine moves on inside the text, so the rest of the text is a measure and every loop has turns
-- enough, and it answers with a record that was made. Assumes nothing.
use Rattle.std.specs.Prelude.{◌≡◌, refl, Bool, ◌&&◌, eqb}
use mathlib.Core.List.{List, [], ◌∷◌}
use Rattle.std.proofs.Math.Bool.{true, false}
use Prim.Native.Nat.{ℕ, zero, suc, ◌-◌, ◌≤◌, ◌<◌}
use Rattle.std.proofs.Common.{arith, leb-false, ltb-true}
use Rattle.std.proofs.Math.Dec.{leb}
use Rattle.std.proofs.Math.ListN.{length}
use Rattle.characters.specs.declared.place.Place.{Place}
use Rattle.characters.specs.Text.{Text, byte_at, start as first}
use Rattle.reading.specs.declared.node.Node.{Node}
use Rattle.reading.specs.Events.{Rec, Earlier, start}
use Rattle.reading.specs.Limits.{Limits, cut}
use Rattle.reading.specs.Process.{Process, look, must, unlimited}
use Rattle.reading.specs.Suits.{Since, Claim, Choice, Suits}
use Rattle.reading.specs.Entry.{Opening, opened, entry}
use Rattle.reading.proofs.Promises.{exact}
use Rattle.reading.proofs.Laws.Suits.{since_with, since_trans}
use Rattle.reading.proofs.Laws.Rules.{Fits, fits_done, fits_stop, fits_make, fits_compare, fits_fresh, fits_call, fits_test, fits_bind}
use Rattle.reading.specs.Trial.{on, seen, sign, held, shut, Routine, expr, turns, new_name, letters, group, lambda, digit, grammar, items, unit}

-- The rest of the text falls; an answer stands further on, with a record that was made; records refer to earlier ones.
abbrev pub choice : Text → Choice Routine
choice s =
    record {
      measure = λ nt p. length s - p.offset;
      asks = λ nt p before. Unit;
      claim = λ nt p before now q n. (p.offset < q.offset) × (n.number ≤ length now);
      fine = λ before r. Earlier (length before) r.fields;
    }

-- Whoever takes a process's answer may count on this: it stands at `low` or further, with a record that was made.
abbrev Works : Text → ℕ → List Rec → ℕ → Process Routine → Type 1
Works s m before low P =
    (Q : Claim) → ((now : List Rec) (q : Place) (n : Node) → Since before now → low ≤ q.offset → n.number ≤ length now → Q now q n)
    → Fits (choice s) m before Q P

module _ (s : Text) {m : ℕ} {before : List Rec} {Q : Claim} where
  -- By what a leaf finds: it moves on one byte inside the text, or stays.
  fits_sign : (p : Place) (low high : ℕ) {f : Place → Place → Process Routine} {g : Place → Process Routine}
      → (p.offset < length s → Fits (choice s) m before Q (f p (on p)))
      → Fits (choice s) m before Q (g p) → Fits (choice s) m before Q (look (sign s p low high) f g)
  unfolding sign
  fits_sign p low high {f} {g} x y =
      go (leb (length s) p.offset) (leb low (byte_at s p.offset) && leb (byte_at s p.offset) high) (leb-false (length s) p.offset)
    where
      go : (a b : Bool) → (a ≡ false → p.offset < length s) → Fits (choice s) m before Q (look (seen a b p) f g)
      go true b h = record { meets = tt }
      go false true h = record { meets = (x (h refl)).meets }
      go false false h = record { meets = y.meets }

  fits_shut : (p : Place) (b : ℕ) {f : Place → Place → Process Routine} → Fits (choice s) m before Q (f p (on p))
      → Fits (choice s) m before Q (must (shut s p b) f)
  unfolding shut
  fits_shut p b {f} x = go (eqb (byte_at s p.offset) b)
    where
      go : (a : Bool) → Fits (choice s) m before Q (must (held a p) f)
      go true = record { meets = x.meets }
      go false = record { meets = tt }

  fits_new : (p : Place) (x : ℕ) (names : List ℕ) (next : Process Routine) → Fits (choice s) m before Q next
      → Fits (choice s) m before Q (new_name p x names next)
  unfolding new_name
  fits_new p x [] next h = h
  fits_new p x (y ∷ ys) next h = fits_bind (fits_compare (fits_test (λ e. fits_stop tt) (λ e. fits_new p x ys next h)))

module _ (s : Text) (m : ℕ) (before : List Rec) where
  letters_works : (f : ℕ) (from : Place) (names : List ℕ) (p : Place) → length s - p.offset < f
      → Works s m before p.offset (letters f s from names p)
  unfolding letters
  letters_works zero from names p l Q h = absurd (omega arith)
  letters_works (suc f) from names p l Q h =
      fits_sign s p 97 122
      (λ i. fits_new s (on p) (byte_at s p.offset) names _ (letters_works f from _ (on p) (omega arith) Q (λ now q n a b c. h now q n a (omega arith) c)))
      (fits_shut s p 125 (fits_make tt (λ now w. h now (on p) _ (since_with w) (omega arith) (omega arith))))

  group_works : (p : Place) → length s - p.offset < m → Works s m before (suc p.offset) (group s p)
  unfolding group
  group_works p l Q h = fits_bind (fits_call tt l (λ now q n a b. fits_shut s q 41 (fits_done (h now (on q) n a (omega arith) b.1))))

  lambda_works : (from p : Place) → length s - p.offset < m → Works s m before p.offset (lambda from p)
  unfolding lambda
  lambda_works from p l Q h =
      fits_bind (fits_fresh (λ k. fits_bind (fits_call tt l (λ now q n a b.
      fits_make (b.1, tt) (λ now' w. h now' q _ (since_trans a (since_with w)) (omega arith) (omega arith))))))

  digit_works : (p : Place) → Works s m before (suc p.offset) (digit s p)
  unfolding digit
  digit_works p Q h = fits_sign s p 48 57 (λ i. fits_make tt (λ now w. h now (on p) _ (since_with w) (omega arith) (omega arith))) (fits_stop tt)

expr_works : (s : Text) (p : Place) (before : List Rec) → Works s (length s - p.offset) before (suc p.offset) (grammar s expr p)
unfolding grammar
expr_works s p before Q h =
    fits_sign s p 40 40 (λ i. group_works s _ before (on p) (omega arith) Q (λ now q n a b c. h now q n a (omega arith) c))
    (fits_sign s p 92 92 (λ i. lambda_works s _ before p (on p) (omega arith) Q (λ now q n a b c. h now q n a (omega arith) c))
    (fits_sign s p 123 123 (λ i. letters_works s _ before (turns s) p [] (on p) (omega arith) Q (λ now q n a b c. h now q n a (omega arith) c))
    (digit_works s _ before p Q h)))

items_fit : (s : Text) (f : ℕ) (before : List Rec) (last : ℕ) (p : Place) → length s - p.offset < f → last ≤ length before
    → Fits (choice s) (suc (length s)) before (λ now q n. Unit) (items f s last p)
unfolding items
items_fit s zero before last p l i = absurd (omega arith)
items_fit s (suc f) before last p l i =
    fits_test
    (λ e.
    let inside = ltb-true p.offset (length s) e in
    fits_bind (fits_call tt (omega arith) (λ now q n a b. fits_bind (fits_make (omega arith, (omega arith, tt)) (λ now' w. items_fit s f now' _ q (omega arith) (omega arith))))))
    (λ e. fits_make (i, tt) (λ now w. tt))

rules_fit : (s : Text) (nt : Routine) (p : Place) (before : List Rec)
    → Fits (choice s) ((choice s).measure nt p) before ((choice s).claim nt p before) (grammar s nt p)
rules_fit s expr p before = expr_works s p before _ (λ now q n a b c. (b, c))

-- The small grammar suits, with as many levels as the text has bytes, and one.
pub suits : (s : Text) → Suits (grammar s) (choice s) (unit s) (suc (length s))
unfolding unit
suits s =
    record {
      rules = λ nt p before a. (rules_fit s nt p before).meets;
      whole = (items_fit s (turns s) [] 0 first (omega arith) (omega arith)).meets;
      earlier = λ before r h. h;
    }

-- So the promises hold of it. One of them:
pub trial_exact : (s : Text) (o : Opening) (L : Limits)
    → entry (grammar s) (unit s) o L ≡ opened o L (cut L start (unlimited (grammar s) (unit s) (suc (length s))))
trial_exact s o L = exact (grammar s) (choice s) (unit s) (suc (length s)) (suits s) o L
