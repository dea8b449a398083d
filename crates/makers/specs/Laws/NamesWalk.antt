-- THE WALK OVER NAMES, as code goes: what it finds in a row, how two names compare, and a turn of the walk. Assumes nothing.
use Rattle.std.specs.Prelude.{◌≡◌, Bool, ◌&&◌, List, [], ◌∷◌, ◌++◌, ℕ, suc, ◌+◌, ◌≤◌, ◌<◌, ◌^◌, get_or, drop, None, Option, Some}
use Rattle.std.proofs.Math.Path.{refl, sym, ap, subst⁻¹}
use Rattle.std.proofs.Common.{subst, ◌∙◌, add-one, drop_of_length-le, drop-cons, eq-eqb, ne_eqb, eqb-true, ltb-true, ltb-false, lt-ltb, le-ltb, le-leb}
use Rattle.std.proofs.Math.Bool.{true, false}
use native.Mathlib.Omega.{arith}
use Rattle.std.proofs.Math.Dec.{ltb, eqb}
use Rattle.std.proofs.Math.ListN.{length}
use Rattle.std.proofs.lemmas.Bool.{eqb-false, lt-leb}
use Rattle.characters.specs.declared.place.Place.{Place}
use Rattle.characters.specs.declared.place.Span.{Span}
use Rattle.characters.specs.declared.refusal.Refusal.TheVariants.{Duplicate, TooManyComparisons}
use Rattle.characters.specs.Text.{Text, ByteOf}
use Rattle.characters.specs.Names.{same}
use Rattle.literals.specs.Strings.{decoded, piece}
use Rattle.literals.specs.StringLaws.{not_ended}
use Rattle.literals.specs.SpellingLaws.{part_length, key_length, piece_none, piece_ascii, Comparing, both_end, first_ends, second_ends, differ, compare_on}
use Rattle.literals.specs.Answers.{spells_as}
use Rattle.reading.specs.declared.tally.Tally.{Tally}
use Rattle.reading.specs.Gots.{Got, Read, Refused}
use Rattle.reading.specs.Events.{with_comparison}
use Rattle.records.specs.Words.{span_of, low_of, high_of, whole_of}
use Rattle.records.specs.Nodes.{Stored, word_at, kind_at, held_at, before_at, closure_at, value_by, role_by, value_at, node_at}
use Rattle.records.proofs.Laws.Words.{low_back, high_back}
use Rattle.grammar.specs.Units.{is_function, declared_name}
use Rattle.makers.specs.declared.names.Naming.{Naming}
use Rattle.makers.specs.Names.{held_if, function_of, class_of, held_by, names_at, names_by, names_of, Refers, Linked, Chained, spells, bytes_by, is_long, alike_by, same_by, held_of, Unique}
use Rattle.makers.specs.Laws.Names.{Walked, walked, unique_none, unique_over, unique_same, unique_on}

-- ---- what a `let` declares

module _ (pool : List ℕ) (number : ℕ) {value : ℕ} where
  pub closure_late : number ≤ value → false ≡ closure_at pool number value
  unfolding closure_at
  closure_late h = sym (ap (λ (b : Bool). b && eqb (kind_at pool value) 12) (le-ltb value number h))

  -- 0 is no record
  pub closure_none : value ≡ 0 → false ≡ closure_at pool number value
  unfolding closure_at kind_at word_at
  closure_none e = sym (ap (λ (v : ℕ). ltb v number && eqb (kind_at pool v) 12) e ∙ go (ltb 0 number))
    where
      go : (b : Bool) → (b && false) ≡ false
      go true = refl
      go false = refl

module _ (pool : List ℕ) (number : ℕ) {value : ℕ} {b : Bool} (e : value ≡ held_at pool number 2) (f : b ≡ closure_at pool number value) where
  role_by_lem : (x : Bool) → b ≡ x → role_by x (held_at pool number 0) ≡ role_by (closure_at pool number (held_at pool number 2)) (held_at pool number 0)
  role_by_lem x g = ap (λ (y : Bool). role_by y (held_at pool number 0)) (sym g ∙ f ∙ ap (closure_at pool number) e)

  pub role_function : b ≡ true → 2 ≡ role_by (closure_at pool number (held_at pool number 2)) (held_at pool number 0)
  role_function g = role_by_lem true g

  pub role_marked : {mark : ℕ} → b ≡ false → mark ≡ held_at pool number 0
      → mark ≡ role_by (closure_at pool number (held_at pool number 2)) (held_at pool number 0)
  role_marked g h = h ∙ role_by_lem false g

-- the value of its node: its name, and what it declares
let_value : (pool : List ℕ) (n : ℕ) → kind_at pool n ≡ 29
    → value_at pool n ≡ whole_of (held_at pool n 1) (role_by (closure_at pool n (held_at pool n 2)) (held_at pool n 0))
unfolding value_at
let_value pool n e = ap (λ (k : ℕ). value_by k (word_at pool n 4) (word_at pool n 5) (word_at pool n 6) (closure_at pool n (word_at pool n 6))) e

-- ---- the function that a statement declares

module _ (pool : List ℕ) (n : ℕ) {kind : ℕ} (e : kind ≡ kind_at pool n) where
  function_if : (b : Bool) {l : List Span} → is_function (node_at pool n) ≡ b → l ≡ held_if b (declared_name (node_at pool n)) → l ≡ function_of pool n
  function_if b f g = g ∙ ap (λ (x : Bool). held_if x (declared_name (node_at pool n))) (sym f)

  pub function_other : (kind ≡ 29 → ⊥) → [] ≡ function_of pool n
  function_other h = function_if false (ap (λ (b : Bool). b && eqb (high_of (value_at pool n)) 2) (ne_eqb (kind_at pool n) 29 (λ z. h (e ∙ z)))) refl

  module _ (h : kind ≡ 29) {word role : ℕ} (f : word ≡ held_at pool n 1) (small : word < 4294967296)
      (g : role ≡ role_by (closure_at pool n (held_at pool n 2)) (held_at pool n 0)) where
    function_value : value_at pool n ≡ whole_of word role
    function_value = let_value pool n (sym e ∙ h) ∙ (λ i. whole_of (sym f i) (sym g i))

    function_is : (b : Bool) → eqb role 2 ≡ b → is_function (node_at pool n) ≡ b
    function_is b z =
        ap (λ (b : Bool). b && eqb (high_of (value_at pool n)) 2) (eq-eqb (kind_at pool n) 29 (sym e ∙ h))
        ∙ ap (λ (v : ℕ). eqb v 2) (ap high_of function_value ∙ high_back word role small)
        ∙ z

    pub function_not : (role ≡ 2 → ⊥) → [] ≡ function_of pool n
    function_not k = function_if false (function_is false (ne_eqb role 2 k)) refl

    pub function_named : {s : Span} → role ≡ 2 → s ≡ span_of word → s ∷ [] ≡ function_of pool n
    function_named k m =
        let w : word ≡ low_of (value_at pool n) = sym (ap low_of function_value ∙ low_back word role small) in
        function_if true (function_is true (eq-eqb role 2 k)) (λ i. (m ∙ ap span_of w) i ∷ [])

-- ---- the class that it declares

module _ (pool : List ℕ) (n : ℕ) {kind : ℕ} (e : kind ≡ kind_at pool n) where
  pub class_other : (kind ≡ 30 → ⊥) → [] ≡ class_of pool n
  class_other h =
      sym
      (ap (λ (b : Bool). held_if (b && (ltb 0 (held_at pool n 0) && ltb (held_at pool n 0) n)) (span_of (held_at pool (held_at pool n 0) 1)))
      (ne_eqb (kind_at pool n) 30 (λ z. h (e ∙ z))))

  module _ (h : kind ≡ 30) {class : ℕ} (f : class ≡ held_at pool n 0) where
    class_if : (b : Bool) {l : List Span} → (ltb 0 class && ltb class n) ≡ b → l ≡ held_if b (span_of (held_at pool class 1)) → l ≡ class_of pool n
    class_if b g k =
        k
        ∙ ap (λ (x : Bool). held_if x (span_of (held_at pool class 1))) (sym g)
        ∙ ap (λ (c : ℕ). held_if (ltb 0 c && ltb c n) (span_of (held_at pool c 1))) f
        ∙ ap (λ (b : Bool). held_if (b && (ltb 0 (held_at pool n 0) && ltb (held_at pool n 0) n)) (span_of (held_at pool (held_at pool n 0) 1)))
        (sym (eq-eqb (kind_at pool n) 30 (sym e ∙ h)))

    pub class_late : n ≤ class → [] ≡ class_of pool n
    class_late l = class_if false (ap (λ (b : Bool). ltb 0 class && b) (le-ltb class n l) ∙ go (ltb 0 class)) refl
      where
        go : (b : Bool) → (b && false) ≡ false
        go true = refl
        go false = refl

    pub class_none : class ≡ 0 → [] ≡ class_of pool n
    class_none l = class_if false (ap (λ (c : ℕ). ltb 0 c && ltb class n) l) refl

    pub class_named : {word : ℕ} {s : Span} → class < n → (class ≡ 0 → ⊥) → word ≡ held_at pool class 1 → s ≡ span_of word → s ∷ [] ≡ class_of pool n
    class_named l z g m =
        let a : ltb 0 class ≡ true = lt-ltb 0 class (omega arith) in
        let b : ltb class n ≡ true = lt-ltb class n l in
        class_if true (λ i. a i && b i) (λ i. (m ∙ ap span_of g) i ∷ [])

-- ---- what an item holds, by which list it is of

module _ (pool : List ℕ) (item : ℕ) {nm : Naming} where
  pub at_as : (to : Naming) {l : List Span} → nm ≡ to → l ≡ held_by to pool (held_at pool item 0) (held_at pool item 2) → l ≡ names_at nm pool item
  unfolding names_at
  at_as to {l} e f = subst⁻¹ (λ (x : Naming). l ≡ held_by x pool (held_at pool item 0) (held_at pool item 2)) e f

  -- the record that it refers to
  pub refers_as : (to : Naming) → nm ≡ to → Linked nm pool item → Refers to (held_at pool item 0) item
  refers_as to e k = subst (λ (x : Naming). Refers x (held_at pool item 0) item) e k.refers

  pub refers_stored : {a : ℕ} → Linked nm pool item → a ≡ held_at pool item 0 → (1 ≤ held_at pool item 0) × (held_at pool item 0 < item) → Stored pool a
  refers_stored k e r = let z = k.stored.room in record { some = omega arith; room = omega arith }

-- ---- the same bytes

-- what is left to compare decides the whole
pub record Matching (a b : Text) (i : ℕ) : Type 0 where
  pub still : same (drop i a) (drop i b) ≡ same a b
  pub long : length b ≡ length a
  pub inside : i ≤ length a

pub match_starts : {a b : Text} → length b ≡ length a → Matching a b 0
match_starts e = record { still = refl; long = e; inside = omega arith }

-- texts of other lengths differ
same_not : (a b : Text) → (length b ≡ length a → ⊥) → same a b ≡ false
unfolding same
same_not [] [] h = absurd (h refl)
same_not [] (y ∷ b) h = refl
same_not (x ∷ a) [] h = refl
same_not (x ∷ a) (y ∷ b) h = go (eqb x y) (same_not a b (λ e. h (ap suc e)))
  where
    go : (u : Bool) → same a b ≡ false → (u && same a b) ≡ false
    go true e = e
    go false e = refl

pub match_none : (a b : Text) → (length b ≡ length a → ⊥) → false ≡ same a b
match_none a b h = sym (same_not a b h)

same_at : (a b : Text) (i : ℕ) → i < length a → i < length b
    → same (drop i a) (drop i b) ≡ (eqb (get_or a i 0) (get_or b i 0) && same (drop (i + 1) a) (drop (i + 1) b))
unfolding same
same_at a b i h l =
    ap (λ (x : Text). same x (drop i b)) (drop-cons a i 0 h)
    ∙ ap (same (get_or a i 0 ∷ drop (suc i) a)) (drop-cons b i 0 l)
    ∙ ap (λ (k : ℕ). eqb (get_or a i 0) (get_or b i 0) && same (drop k a) (drop k b)) (sym (add-one i))

module _ {a b : Text} {i : ℕ} (v : Matching a b i) where
  pub match_inside : i < length a → i < length b
  match_inside h = let e = v.long in omega arith

  pub match_on : i < length a → get_or a i 0 ≡ get_or b i 0 → Matching a b (i + 1)
  match_on h e =
      record {
        still = sym (same_at a b i h (match_inside h) ∙ rw (eq-eqb (get_or a i 0) (get_or b i 0) e) refl) ∙ v.still;
        long = v.long;
        inside = omega arith;
      }

  pub match_off : i < length a → (get_or a i 0 ≡ get_or b i 0 → ⊥) → false ≡ same a b
  match_off h n = sym (same_at a b i h (match_inside h) ∙ rw (ne_eqb (get_or a i 0) (get_or b i 0) n) refl) ∙ v.still

  pub match_all : length a ≤ i → true ≡ same a b
  unfolding same
  match_all h =
      let e = v.long in
      let l : length b ≤ i = omega arith in
      sym (ap (λ (x : Text). same x (drop i b)) (drop_of_length-le a h) ∙ ap (same []) (drop_of_length-le b l)) ∙ v.still

-- ---- the same characters

module _ (b : ℕ) where
  pub long_escape : b ≡ 92 → true ≡ is_long b
  long_escape e = rw e refl

  pub long_high : 128 ≤ b → b < 256 → true ≡ is_long b
  long_high l h = rw (ne_eqb b 92 (λ e. omega arith), le-leb 128 b l, lt-ltb b 256 h) refl

  pub long_low : (b ≡ 92 → ⊥) → b < 128 → false ≡ is_long b
  long_low n l = rw (ne_eqb b 92 n, lt-leb 128 b l) refl

  pub long_end : 256 ≤ b → false ≡ is_long b
  long_end h = rw (ne_eqb b 92 (λ e. omega arith), le-leb 128 b (omega arith), le-ltb b 256 h) refl

-- any other byte of the text is its character
plain_char : {a : Text} {i x : ℕ} → ByteOf a i x → is_long x ≡ false → (x ≡ 256 → ⊥) → spells_as x (i + 1) ≡ piece a i
plain_char {a} {i} {x} e p n = go (ltb x 128) refl (eqb x 92) refl
  where
    no : {P : Type 0} → true ≡ is_long x → P
    no z = let w : ◌≡◌ {A = Bool} true false = z ∙ p in absurd (let q : ◌≡◌ {A = ℕ} 0 1 = cc in omega arith)

    go : (u : Bool) → ltb x 128 ≡ u → (v : Bool) → eqb x 92 ≡ v → spells_as x (i + 1) ≡ piece a i
    go true f false g = piece_ascii e n (eqb-false x 92 g) (ltb-true x 128 f)
    go true f true g = no (long_escape x (eqb-true x 92 g))
    go false f v g = no (long_high x (ltb-false x 128 f) (not_ended e n))

module _ {a b : Text} {i x y : ℕ} (h : Comparing a b i i) (e : ByteOf a i x) (f : ByteOf b i y) where
  -- both texts end
  pub spell_ends : x ≡ y → x ≡ 256 → true ≡ same (decoded a) (decoded b)
  spell_ends z l = both_end h (piece_none e l) (piece_none f (sym z ∙ l))

  module _ (p : is_long x ≡ false) (q : is_long y ≡ false) where
    -- the first difference
    pub spell_off : (x ≡ y → ⊥) → false ≡ same (decoded a) (decoded b)
    spell_off n = go (eqb x 256) refl (eqb y 256) refl
      where
        go : (u : Bool) → eqb x 256 ≡ u → (v : Bool) → eqb y 256 ≡ v → false ≡ same (decoded a) (decoded b)
        go true k true l = absurd (n (eqb-true x 256 k ∙ sym (eqb-true y 256 l)))
        go true k false l = first_ends h (piece_none e (eqb-true x 256 k)) (plain_char f q (eqb-false y 256 l))
        go false k true l = second_ends h (plain_char e p (eqb-false x 256 k)) (piece_none f (eqb-true y 256 l))
        go false k false l = differ h (plain_char e p (eqb-false x 256 k)) (plain_char f q (eqb-false y 256 l)) n

    pub spell_on : x ≡ y → (x ≡ 256 → ⊥) → Comparing a b (i + 1) (i + 1)
    spell_on z n = compare_on h (plain_char e p n) (plain_char f q (λ l. n (z ∙ l))) z

-- ---- by their bytes, or by what these spell

pub bytes_by_lem : (s : Text) (k : Span) {x : Text} {spelled : Bool} (u : Bool) → spelled ≡ u → x ≡ bytes_by u s k → x ≡ bytes_by spelled s k
bytes_by_lem s k {x} u e f = subst⁻¹ (λ (v : Bool). x ≡ bytes_by v s k) e f

-- they stand in the text
pub bytes_short : (s : Text) (k : Span) (spelled : Bool) {x : Text} {n : ℕ} → x ≡ bytes_by spelled s k → length s < n → length x < n
bytes_short s k true e h = let z = key_length s k.from k.to in let f = ap length e in omega arith
bytes_short s k false e h = let z = part_length s k.from k.to in let f = ap length e in omega arith

pub alike_by_lem : (a b : Text) {spelled r : Bool} (u : Bool) → spelled ≡ u → r ≡ alike_by u a b → r ≡ alike_by spelled a b
alike_by_lem a b {r = r} u e f = subst⁻¹ (λ (v : Bool). r ≡ alike_by v a b) e f

-- ---- the turns

-- What holds at each turn: the items from here back can be walked, and whatever is left of them answers for the whole, of every name with
-- these bytes.
pub record Walks (nm : Naming) (s : Text) (pool : List ℕ) (comps : ℕ) (q at : Place) (mine : Text) (last : ℕ) (t : Tally) (item : ℕ) (u : Tally) : Type 0 where
  pub chained : Chained nm pool item
  pub small : item < 2 ^ 32
  pub rest : (name : Span) → mine ≡ bytes_by (spells nm) s name → (r : Got) → Unique nm s comps u q at name (names_of nm pool item) r
      → Unique nm s comps t q at name (names_of nm pool last) r

pub walk_starts : {nm : Naming} {s : Text} {pool : List ℕ} {comps : ℕ} {q at : Place} {mine : Text} {last : ℕ} {t : Tally} → Chained nm pool last → last < 2 ^ 32
    → Walks nm s pool comps q at mine last t last t
walk_starts c l = record { chained = c; small = l; rest = λ name x r d. d }

-- the bytes of the new name, as the walk has them
pub bytes_as : (nm : Naming) (s : Text) (name : Span) {mine : Text} {spelled : Bool} → spelled ≡ spells nm → mine ≡ bytes_by spelled s name
    → mine ≡ bytes_by (spells nm) s name
bytes_as nm s name z x = x ∙ ap (λ (b : Bool). bytes_by b s name) z

module _ {nm : Naming} {s : Text} {pool : List ℕ} {comps : ℕ} {q at : Place} {mine : Text} {last item : ℕ} {t u : Tally} (w : Walks nm s pool comps q at mine last t item u) where
  -- no item is left
  pub walk_end : (name : Span) → mine ≡ bytes_by (spells nm) s name → item ≡ 0 → Unique nm s comps t q at name (names_of nm pool last) (Read q u)
  unfolding names_of names_by
  walk_end name x e =
      let d : Unique nm s comps u q at name (names_of nm pool 0) (Read q u) = unique_none in
      w.rest name x (Read q u) (subst⁻¹ (λ (x : ℕ). Unique nm s comps u q at name (names_of nm pool x) (Read q u)) e d)

  module _ (some : item ≡ 0 → ⊥) where
    here : Walked nm pool item
    here = walked w.chained some

    -- the item before is an earlier one
    pub walk_less : {before : ℕ} → before ≡ before_at pool item → before < item
    walk_less e = rw e here.linked.earlier

    module _ {h : Option Span} (f : held_of h ≡ names_at nm pool item) where
      names_here : {x : Option Span} → h ≡ x → names_of nm pool item ≡ held_of x ++ names_of nm pool (before_at pool item)
      names_here {x} g = here.names ∙ ap (λ (l : List Span). l ++ names_of nm pool (before_at pool item)) (sym f ∙ ap held_of g)

      by_names : {name : Span} {x : Option Span} {v : Tally} {r : Got} → h ≡ x → Unique nm s comps v q at name (held_of x ++ names_of nm pool (before_at pool item)) r
          → Unique nm s comps v q at name (names_of nm pool item) r
      by_names {name} {v = v} {r = r} g d = subst⁻¹ (λ (l : List Span). Unique nm s comps v q at name l r) (names_here g) d

      next : {before : ℕ} (x : Option Span) (v : Tally) → h ≡ x → before ≡ before_at pool item
          → ((name : Span) → mine ≡ bytes_by (spells nm) s name → (r : Got) → Unique nm s comps v q at name (names_of nm pool (before_at pool item)) r
          → Unique nm s comps u q at name (held_of x ++ names_of nm pool (before_at pool item)) r)
          → Walks nm s pool comps q at mine last t before v
      next x v g e d =
          let i = here.linked.earlier in
          let j = w.small in
          rw e (record { chained = here.rest; small = omega arith; rest = λ name y r c. w.rest name y r (by_names g (d name y r c)) })

      -- it holds no name
      pub walk_pass : {before : ℕ} → h ≡ None → before ≡ before_at pool item → Walks nm s pool comps q at mine last t before u
      walk_pass g e = next None u g e (λ name y r c. c)

      module _ {k : Span} (g : h ≡ Some k) where
        -- no comparison is left
        pub walk_over : (name : Span) → mine ≡ bytes_by (spells nm) s name → comps ≤ u.comparisons
            → Unique nm s comps t q at name (names_of nm pool last) (Refused TooManyComparisons q u)
        walk_over name x l = w.rest name x _ (by_names g (unique_over l))

        module _ {spelled b : Bool} {theirs : Text} {v : Tally} (l : u.comparisons < comps) (m : v ≡ with_comparison u) (z : spelled ≡ spells nm)
            (y : theirs ≡ bytes_by spelled s k) (a : b ≡ alike_by spelled mine theirs) where
          same_as : (name : Span) → mine ≡ bytes_by (spells nm) s name → same_by nm s name k ≡ b
          same_as name x = sym (a ∙ (λ i. alike_by (z i) mine (bytes_as nm s k z y i)) ∙ ap (λ (o : Text). alike_by (spells nm) o (bytes_by (spells nm) s k)) x)

          -- the name stands there already
          pub walk_same : (name : Span) → mine ≡ bytes_by (spells nm) s name → b ≡ true
              → Unique nm s comps t q at name (names_of nm pool last) (Refused Duplicate at v)
          walk_same name x o =
              subst⁻¹ (λ (c : Tally). Unique nm s comps t q at name (names_of nm pool last) (Refused Duplicate at c)) m
              (w.rest name x _ (by_names g (unique_same l (same_as name x ∙ o))))

          -- it is another: the item before is next
          pub walk_on : {before : ℕ} → b ≡ false → before ≡ before_at pool item → Walks nm s pool comps q at mine last t before v
          walk_on {before} o e =
              subst⁻¹ (λ (c : Tally). Walks nm s pool comps q at mine last t before c) m
              (next (Some k) (with_comparison u) g e (λ name x r c. unique_on l (same_as name x ∙ o) c))
