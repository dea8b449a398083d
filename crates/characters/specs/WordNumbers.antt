-- The reserved words as code tells them: the number of each, in the order of the list; and no two of them have one number. Assumes nothing.
use Rattle.std.specs.Prelude.{◌≡◌, refl, Bool, true, false, ◌&&◌, List, [], ◌∷◌, ℕ, zero, suc, ◌+◌, ◌<◌, eqb, get_or, length, None, Option, Some}
use Rattle.std.proofs.Common.{sym, ap, ◌∙◌, eqb-true, ne_eqb, arith}
use Rattle.characters.specs.declared.reserved.Word.{Word}
use Rattle.characters.specs.Text.{Text}
use Rattle.characters.specs.Names.{numbered, reserved, same, word_of}
use Rattle.characters.specs.declared.reserved.Word.TheVariants.{True, False, Nil, Let, Var, Fun, Class, Extends, If, Else, Loop, While, For, Return, Break, Continue, Assert, Instanceof, Import, Try, Catch, Finally, Throw, Yield, Do, In, Match, Export}

-- the number of a reserved word, from 1
abbrev pub number_of : Word → ℕ
number_of True = 1
number_of False = 2
number_of Nil = 3
number_of Let = 4
number_of Var = 5
number_of Fun = 6
number_of Class = 7
number_of Extends = 8
number_of If = 9
number_of Else = 10
number_of Loop = 11
number_of While = 12
number_of For = 13
number_of Return = 14
number_of Break = 15
number_of Continue = 16
number_of Assert = 17
number_of Instanceof = 18
number_of Import = 19
number_of Try = 20
number_of Catch = 21
number_of Finally = 22
number_of Throw = 23
number_of Yield = 24
number_of Do = 25
number_of In = 26
number_of Match = 27
number_of Export = 28

-- the number of what a name is: 0 where it is no reserved word
abbrev pub number_of_word : Option Word → ℕ
number_of_word None = 0
number_of_word (Some w) = number_of w

-- ---- the word of a number

-- what each number stands for
abbrev words : List (Option Word)
words = None ∷ Some True ∷ Some False ∷ Some Nil ∷ Some Let ∷ Some Var ∷ Some Fun ∷ Some Class ∷ Some Extends ∷ Some If ∷ Some Else ∷ Some Loop ∷ Some While ∷ Some For ∷ Some Return ∷ Some Break ∷ Some Continue ∷ Some Assert ∷ Some Instanceof ∷ Some Import ∷ Some Try ∷ Some Catch ∷ Some Finally ∷ Some Throw ∷ Some Yield ∷ Some Do ∷ Some In ∷ Some Match ∷ Some Export ∷ []

-- the reserved word of a number, none for 0 and past the last
abbrev pub word_numbered : ℕ → Option Word
word_numbered k = get_or words k None

-- the reserved word that a name is, if it is one
unfoldable pub reserved_word : Text → Option Word
reserved_word w = word_numbered (word_of w)

-- ---- no two have one number

word_at : (w : Option Word) → word_numbered (number_of_word w) ≡ w
word_at None = refl
word_at (Some True) = refl
word_at (Some False) = refl
word_at (Some Nil) = refl
word_at (Some Let) = refl
word_at (Some Var) = refl
word_at (Some Fun) = refl
word_at (Some Class) = refl
word_at (Some Extends) = refl
word_at (Some If) = refl
word_at (Some Else) = refl
word_at (Some Loop) = refl
word_at (Some While) = refl
word_at (Some For) = refl
word_at (Some Return) = refl
word_at (Some Break) = refl
word_at (Some Continue) = refl
word_at (Some Assert) = refl
word_at (Some Instanceof) = refl
word_at (Some Import) = refl
word_at (Some Try) = refl
word_at (Some Catch) = refl
word_at (Some Finally) = refl
word_at (Some Throw) = refl
word_at (Some Yield) = refl
word_at (Some Do) = refl
word_at (Some In) = refl
word_at (Some Match) = refl
word_at (Some Export) = refl

abbrev word_in : Option Word → Word
word_in None = True
word_in (Some w) = w

pub same_word : (v w : Word) → number_of v ≡ number_of w → v ≡ w
same_word v w e = ap word_in (sym (word_at (Some v)) ∙ ap word_numbered e ∙ word_at (Some w))

-- another word has another number
pub other_word : (v w : Word) → (v ≡ w → ⊥) → eqb (number_of v) (number_of w) ≡ false
other_word v w n = ne_eqb (number_of v) (number_of w) (λ e. n (same_word v w e))

-- no word has the number 0
pub some_word : (w : Word) → eqb (number_of w) 0 ≡ false
some_word w =
    ne_eqb (number_of w) 0
    (λ e.
    let h : None ≡ Some w = ap word_numbered (sym e) ∙ word_at (Some w) in
    let z : ◌≡◌ {A = ℕ} 0 1 = cc in
    absurd (omega arith))

-- ---- the word that a name is, by its number and the other way round

-- no name has a number past the last word's
numbered_below : (k : ℕ) (ws : List Text) (n : Text) → 0 < k → numbered k ws n < k + length ws
unfolding numbered
numbered_below k [] n h = omega arith
numbered_below k (w ∷ ws) n h = go (same w n) (numbered_below (suc k) ws n (omega arith))
  where
    go : (t : Bool) → numbered (suc k) ws n < suc k + length ws → elim t [ true ↦ k | false ↦ numbered (suc k) ws n ] < k + suc (length ws)
    go true l = omega arith
    go false l = omega arith

-- each word of the list has the number of its place
placed : ℕ → List (Option Word) → Bool
placed k [] = true
placed k (w ∷ ws) = eqb (number_of_word w) k && placed (suc k) ws

all_placed : placed 0 words ≡ true
unfolding placed
all_placed = refl

placed_at : (k : ℕ) (ws : List (Option Word)) → placed k ws ≡ true → (j : ℕ) → j < length ws → number_of_word (get_or ws j None) ≡ k + j
unfolding placed
placed_at k [] e j h = absurd (omega arith)
placed_at k (w ∷ ws) e zero h = eqb-true (number_of_word w) k (left (eqb (number_of_word w) k) (placed (suc k) ws) e) ∙ (let z : k ≡ k + 0 = omega arith in z)
  where
    left : (u v : Bool) → (u && v) ≡ true → u ≡ true
    left true v e = refl
    left false v e = e
placed_at k (w ∷ ws) e (suc j) h = placed_at (suc k) ws (right (eqb (number_of_word w) k) (placed (suc k) ws) e) j (omega arith) ∙ (let z : suc k + j ≡ k + suc j = omega arith in z)
  where
    right : (u v : Bool) → (u && v) ≡ true → v ≡ true
    right true v e = e
    right false v e = let z : ◌≡◌ {A = ℕ} 0 1 = cc in absurd (omega arith)

word_small : (w : Text) → word_of w < 29
unfolding word_of
word_small w = numbered_below 1 reserved w (omega arith)

-- what has the number of a name's word is the word that the name is,
pub told : (r : Option Word) (w : Text) → number_of_word r ≡ word_of w → r ≡ reserved_word w
unfolding reserved_word
told r w e = sym (word_at r) ∙ ap word_numbered e

-- and the word that a name is has the number of the name's word
pub numbered_back : {r : Option Word} (w : Text) → r ≡ reserved_word w → number_of_word r ≡ word_of w
unfolding reserved_word
numbered_back w e = ap number_of_word e ∙ placed_at 0 words all_placed (word_of w) (word_small w) ∙ (let z : 0 + word_of w ≡ word_of w = omega arith in z)
