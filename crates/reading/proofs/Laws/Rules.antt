-- The laws by which a grammar shows that it suits: one for each step of a process. Assumes nothing.
use Rattle.std.specs.Prelude.{◌≡◌, refl, List, Bool, true, false, ℕ, ◌+◌, ◌<◌, T, length, Err, Ok}
use Rattle.characters.specs.declared.place.Place.{Place}
use Rattle.characters.specs.declared.refusal.Refusal.{Refusal}
use Rattle.characters.specs.Answers.{Looked, Must, failed, found, missing, taken}
use Rattle.reading.specs.declared.node.Node.{Node}
use Rattle.reading.specs.Events.{Rec}
use Rattle.reading.specs.Process.{Process, done, stop, spent, make, compare, fresh, call, test, look, must, bind, node_as, plain}
use Rattle.reading.specs.Suits.{proper, Since, With, Claim, Choice, Meets}
use Rattle.reading.proofs.Laws.Suits.{since_same, since_with, since_trans}

-- Whoever meets a claim meets a weaker one.
pub meets_weaken : {N : Type 0} (C : Choice N) (m : ℕ) (before : List Rec) (Q R : Claim) (P : Process N)
    → ((now : List Rec) (q : Place) (n : Node) → Since before now → Q now q n → R now q n) → Meets C m before Q P → Meets C m before R P
meets_weaken C m before Q R (done p n) f h = f before p n (since_same before) h
meets_weaken C m before Q R (stop k p) f h = h
meets_weaken C m before Q R (spent p) f h = h
meets_weaken C m before Q R (make p r v) f h = (h.0, λ now w. f now p _ (since_with w) (h.1 now w))
meets_weaken C m before Q R (compare p) f h = f before p _ (since_same before) h
meets_weaken C m before Q R (fresh p) f h = λ k. f before p _ (since_same before) (h k)
meets_weaken C m before Q R (call nt p) f h = (h.0, h.1, λ now q n a b. f now q n a (h.2 now q n a b))
meets_weaken C m before Q R (test true x y) f h = meets_weaken C m before Q R x f h
meets_weaken C m before Q R (test false x y) f h = meets_weaken C m before Q R y f h
meets_weaken C m before Q R (look (found a b) x y) f h = meets_weaken C m before Q R (x a b) f h
meets_weaken C m before Q R (look (missing a) x y) f h = meets_weaken C m before Q R (y a) f h
meets_weaken C m before Q R (look (Err e) x y) f h = h
meets_weaken C m before Q R (must (Ok t) x) f h = meets_weaken C m before Q R (x t.here t.next) f h
meets_weaken C m before Q R (must (Err e) x) f h = h
meets_weaken C m before Q R (bind x k) f h =
    meets_weaken C m before (λ now q n. Meets C m now Q (k q n)) (λ now q n. Meets C m now R (k q n)) x
    (λ now q n a b. meets_weaken C m now Q R (k q n) (λ now' q' n' a' b'. f now' q' n' (since_trans a a') b') b)
    h

-- `Meets` in a box, so that antt reads the process off the goal.
pub record Fits {N : Type 0} (C : Choice N) (m : ℕ) (before : List Rec) (Q : Claim) (P : Process N) : Type 0 where
  pub meets : Meets C m before Q P

module _ {N : Type 0} {C : Choice N} {m : ℕ} {before : List Rec} {Q : Claim} where
  pub fits_done : {p : Place} {n : Node} → Q before p n → Fits C m before Q (done p n)
  fits_done h = record { meets = h }

  pub fits_stop : {k : Refusal} {p : Place} → T (proper k) → Fits C m before Q (stop k p)
  fits_stop h = record { meets = h }

  pub fits_make : {p : Place} {r : Rec} {v : ℕ} → C.fine before r
      → ((now : List Rec) → With before r now → Q now p (node_as (length before + 1) r v)) → Fits C m before Q (make p r v)
  fits_make h k = record { meets = (h, k) }

  pub fits_compare : {p : Place} → Q before p (plain 0 p) → Fits C m before Q (compare p)
  fits_compare h = record { meets = h }

  pub fits_fresh : {p : Place} → ((k : ℕ) → Q before p (plain k p)) → Fits C m before Q (fresh p)
  fits_fresh h = record { meets = h }

  pub fits_call : {nt : N} {p : Place} → C.asks nt p before → C.measure nt p < m
      → ((now : List Rec) (q : Place) (n : Node) → Since before now → C.claim nt p before now q n → Q now q n)
      → Fits C m before Q (call nt p)
  fits_call a h k = record { meets = (a, h, k) }

  pub fits_test : {b : Bool} {x y : Process N} → (b ≡ true → Fits C m before Q x) → (b ≡ false → Fits C m before Q y)
      → Fits C m before Q (test b x y)
  fits_test {b = true} h k = record { meets = (h refl).meets }
  fits_test {b = false} h k = record { meets = (k refl).meets }

  pub fits_look : {l : Looked} {f : Place → Place → Process N} {g : Place → Process N}
      → ((a b : Place) → l ≡ found a b → Fits C m before Q (f a b))
      → ((a : Place) → l ≡ missing a → Fits C m before Q (g a)) → ((k : Refusal) (a : Place) → l ≡ failed k a → T (proper k)) → Fits C m before Q (look l f g)
  fits_look {l = found a b} x y z = record { meets = (x a b refl).meets }
  fits_look {l = missing a} x y z = record { meets = (y a refl).meets }
  fits_look {l = Err e} x y z = record { meets = z e.refusal e.at refl }

  pub fits_must : {l : Must} {f : Place → Place → Process N} → ((a b : Place) → l ≡ taken a b → Fits C m before Q (f a b))
      → ((k : Refusal) (a : Place) → l ≡ failed k a → T (proper k)) → Fits C m before Q (must l f)
  fits_must {l = Ok t} x z = record { meets = (x t.here t.next refl).meets }
  fits_must {l = Err e} x z = record { meets = z e.refusal e.at refl }

  pub fits_bind : {x : Process N} {k : Place → Node → Process N} → Fits C m before (λ now q n. Fits C m now Q (k q n)) x
      → Fits C m before Q (bind x k)
  fits_bind {x = x} {k = k} h =
      record { meets = meets_weaken C m before (λ now q n. Fits C m now Q (k q n)) (λ now q n. Meets C m now Q (k q n)) x (λ now q n a b. b.meets) h.meets }

  -- A process that fits a claim fits a weaker one.
  pub fits_weaken : {R : Claim} {P : Process N} → ((now : List Rec) (q : Place) (n : Node) → Since before now → R now q n → Q now q n)
      → Fits C m before R P → Fits C m before Q P
  fits_weaken {R = R} {P = P} f h = record { meets = meets_weaken C m before R Q P f h.meets }
