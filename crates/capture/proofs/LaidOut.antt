-- The layout as it is read is the one that is said of fields: what is laid out is read so, what is read so is laid out, and where it is
-- broken, the place that is given is that one.
use mathlib.Core.Path.{◌≡◌, refl, sym, ap, ◌∙◌}
use mathlib.Core.Bool.{Bool, true, false, cond, and-eq-true_iff, true≢false}
use mathlib.Core.Logic.{◌⊎◌, inl, inr, ⊎_elim}
use mathlib.Core.List.{List, [], ◌∷◌, ◌++◌, append_assoc, append-nil}
use Prim.Native.Nat.{ℕ, suc, ◌+◌, ◌*◌, ◌/◌, ◌%◌, ◌≤◌, ◌<◌}
use native.Mathlib.Nat.{le_trans}
use native.Mathlib.Omega.{arith}
use lib.Dec.{eqb}
use lib.ListN.{length, get_or, drop, length-append, length-drop, take-append-drop, drop_of_length-le}
use lib.Seq.{take_at, drop_at, drop-drop, get_or-drop}
use borrow.Author.Tests.{eq-eqb, ne_eqb, eqb-true, le-leb}
use Rattle.capture.specs.Capture.{Field, field, encoded, captured, others, told, content, stands, fields, size, place89, has89, end, holds, information}
use Rattle.capture.specs.Layout.{Known, Right, Rising, no_more, more, LaidOut, BrokenAt}
use Rattle.capture.proofs.Laws.{all_there, length_content, ends_89}

-- A field in front of anything is read as it is.
module _ (f : Field) (rest : List ℕ) (h : length f.bytes < 0x10000) where
  told_is : told (encoded f ++ rest) ≡ length f.bytes
  told_is = omega arith

  stands_there : stands f.tag (encoded f ++ rest) ≡ true
  stands_there =
      rw (eq-eqb f.tag f.tag refl, told_is, le-leb (3 + length f.bytes) (length (encoded f ++ rest)) (omega (arith, length-append f.bytes rest)))

  content_is : content (encoded f ++ rest) ≡ f.bytes
  content_is = rw told_is (take_at f.bytes rest (length f.bytes) refl)

  behind_is : drop (3 + told (encoded f ++ rest)) (encoded f ++ rest) ≡ rest
  behind_is = rw (told_is, ← drop-drop (length f.bytes) 3 (encoded f ++ rest)) (drop_at f.bytes rest (length f.bytes) refl)

-- And what is read as a field stands there, in a list of bytes.
abbrev Bytewise : List ℕ → Type 0
Bytewise bytes = (k : ℕ) → get_or bytes k 0 < 0x100

told_few : (rest : List ℕ) → Bytewise rest → told rest < 0x10000
told_few rest b = omega (arith, b 1, b 2)

field_again : (tag : ℕ) (rest : List ℕ) → Bytewise rest → stands tag rest ≡ true → encoded (field tag (content rest)) ++ drop (3 + told rest) rest ≡ rest
field_again tag [] b e = absurd (omega (arith, all_there tag [] e))
field_again tag (x ∷ []) b e = absurd (omega (arith, all_there tag (x ∷ []) e))
field_again tag (x ∷ y ∷ []) b e = absurd (omega (arith, all_there tag (x ∷ y ∷ []) e))
field_again tag (x ∷ y ∷ z ∷ l) b e =
    let n = 0x100 * y + z in
    let same : x ≡ tag = eqb-true x tag ((and-eq-true_iff (eqb x tag) _).0 e).0 in
    let size = length_content (x ∷ y ∷ z ∷ l) (all_there tag (x ∷ y ∷ z ∷ l) e) in
    let small : z < 0x100 = b 2 in
    let high : n / 0x100 ≡ y = omega arith in
    let low : n % 0x100 ≡ z = omega arith in
    rw (size, high, low, ← same, ← drop-drop n 3 (x ∷ y ∷ z ∷ l)) (ap (λ (t : List ℕ). x ∷ y ∷ z ∷ t) (take-append-drop n l))

-- A tag before 89h.
abbrev Other : ℕ → Type 0
Other tag = (tag ≡ 0x00) ⊎ (tag ≡ 0x01) ⊎ (tag ≡ 0x80) ⊎ (tag ≡ 0x83)

below_89 : {tag : ℕ} → Other tag → tag < 0x84
below_89 (inl e) = omega arith
below_89 (inr (inl e)) = omega arith
below_89 (inr (inr (inl e))) = omega arith
below_89 (inr (inr (inr e))) = omega arith

-- Fields of such tags, rising; and the least tag that could follow them.
data Before : ℕ → List Field → Type 0 where
  none : {least : ℕ} → Before least []
  then : {least : ℕ} {f : Field} {fs : List Field} → least ≤ f.tag → Other f.tag → length f.bytes < 0x10000 → Before (suc f.tag) fs → Before least (f ∷ fs)

bound : ℕ → List Field → ℕ
bound least [] = least
bound least (f ∷ fs) = bound (suc f.tag) fs

-- A list has every tag from a least one on: the first of the list, or one above it.
data Has : ℕ → List ℕ → Type 0 where
  all : {least : ℕ} → ((tag : ℕ) → Other tag → least ≤ tag → ⊥) → Has least []
  first : {least t : ℕ} {ts : List ℕ} → least ≤ t → Other t → ((tag : ℕ) → Other tag → least ≤ tag → (tag ≡ t) ⊎ (suc t ≤ tag)) → Has (suc t) ts → Has least (t ∷ ts)

has_others : Has 0 others
has_others =
    first {least = 0x00} {t = 0x00} (omega arith) (inl refl) (λ tag o h. after_00 o)
    (first {least = 0x01} {t = 0x01} (omega arith) (inr (inl refl)) (λ tag o h. after_01 o h)
    (first {least = 0x02} {t = 0x80} (omega arith) (inr (inr (inl refl))) (λ tag o h. after_80 o h)
    (first {least = 0x81} {t = 0x83} (omega arith) (inr (inr (inr refl))) (λ tag o h. after_83 o h)
    (all {least = 0x84} (λ tag o h. omega (arith, below_89 o))))))
  where
    after_00 : {tag : ℕ} → Other tag → (tag ≡ 0x00) ⊎ (suc 0x00 ≤ tag)
    after_00 (inl e) = inl e
    after_00 (inr (inl e)) = inr (omega arith)
    after_00 (inr (inr (inl e))) = inr (omega arith)
    after_00 (inr (inr (inr e))) = inr (omega arith)

    after_01 : {tag : ℕ} → Other tag → suc 0x00 ≤ tag → (tag ≡ 0x01) ⊎ (suc 0x01 ≤ tag)
    after_01 (inl e) h = absurd (omega arith)
    after_01 (inr (inl e)) h = inl e
    after_01 (inr (inr (inl e))) h = inr (omega arith)
    after_01 (inr (inr (inr e))) h = inr (omega arith)

    after_80 : {tag : ℕ} → Other tag → suc 0x01 ≤ tag → (tag ≡ 0x80) ⊎ (suc 0x80 ≤ tag)
    after_80 (inl e) h = absurd (omega arith)
    after_80 (inr (inl e)) h = absurd (omega arith)
    after_80 (inr (inr (inl e))) h = inl e
    after_80 (inr (inr (inr e))) h = inr (omega arith)

    after_83 : {tag : ℕ} → Other tag → suc 0x80 ≤ tag → (tag ≡ 0x83) ⊎ (suc 0x83 ≤ tag)
    after_83 (inl e) h = absurd (omega arith)
    after_83 (inr (inl e)) h = absurd (omega arith)
    after_83 (inr (inr (inl e))) h = absurd (omega arith)
    after_83 (inr (inr (inr e))) h = inl e

-- Nothing that stands in front of the rest could follow the fields.
abbrev Ends : ℕ → List Field → List ℕ → Type 0
Ends least fs rest = (tag : ℕ) → Other tag → bound least fs ≤ tag → stands tag rest ≡ true → ⊥

-- Such fields, and a rest that none of them stands in front of, are read as they are.
read : {least : ℕ} {tags : List ℕ} → Has least tags → (fs : List Field) → Before least fs → (rest : List ℕ) → Ends least fs rest → fields tags (captured fs ++ rest) ≡ fs
unfolding fields captured bound
read (all n) [] b rest ends = refl
read (all n) (f ∷ fs) (then h o l b) rest ends = absurd (n f.tag o h)
read (first {t = t} {ts = ts} h o next has) [] b rest ends =
    by (read has [] none rest (λ tag p g s. ends tag p (omega arith) s)) (stands t rest) refl
  where
    by : fields ts rest ≡ [] → (s : Bool) → stands t rest ≡ s → cond s (field t (content rest) ∷ fields ts (drop (3 + told rest) rest)) (fields ts rest) ≡ []
    by r true e = absurd (ends t o h e)
    by r false e = r
read (first {t = t} {ts = ts} h o next has) (f ∷ fs) (then g p l b) rest ends =
    by (λ (c : Before (suc t) fs) (e : Ends (suc t) fs rest). read has fs c rest e) (λ (c : Before (suc t) (f ∷ fs)). read has (f ∷ fs) c rest ends) (next f.tag p g)
  where
    by : (Before (suc t) fs → Ends (suc t) fs rest → fields ts (captured fs ++ rest) ≡ fs) → (Before (suc t) (f ∷ fs) → fields ts (captured (f ∷ fs) ++ rest) ≡ f ∷ fs) → (f.tag ≡ t) ⊎ (suc t ≤ f.tag) → fields (t ∷ ts) (captured (f ∷ fs) ++ rest) ≡ f ∷ fs
    by r s (inl e) =
        let again = r (rw e at b) (rw e at ends) in
        rw (append_assoc f.bytes (captured fs) rest, ← e)
        (rw (stands_there f (captured fs ++ rest) l, content_is f (captured fs ++ rest) l, behind_is f (captured fs ++ rest) l) (ap (λ (gs : List Field). f ∷ gs) again))
    by r s (inr e) = rw (ne_eqb f.tag t (λ z. omega arith)) (s (then e p l b))

-- The least tag may be less.
lower : {least more-least : ℕ} {fs : List Field} → least ≤ more-least → Before more-least fs → Before least fs
lower h none = none
lower h (then g o l b) = then (le_trans h g) o l b

-- What is read of bytes: such fields, all of them, and a rest that none of them stands in front of.
record Reading (least : ℕ) (fs : List Field) (rest : List ℕ) : Type 0 where
  before : Before least fs
  whole : captured fs ++ drop (size fs) rest ≡ rest
  ended : Ends least fs (drop (size fs) rest)

bytes_behind : (n : ℕ) (rest : List ℕ) → Bytewise rest → Bytewise (drop n rest)
bytes_behind n rest b k = rw (get_or-drop n rest k 0) (b (n + k))

reading : {least : ℕ} {tags : List ℕ} → Has least tags → (rest : List ℕ) → Bytewise rest → Reading least (fields tags rest) rest
unfolding fields captured size bound
reading (all n) rest b = record { before = none; whole = refl; ended = λ tag o h s. n tag o h }
reading (first {least = least} {t = t} {ts = ts} h o next has) rest b =
    by (stands t rest) refl (reading has (drop (3 + told rest) rest) (bytes_behind (3 + told rest) rest b)) (reading has rest b)
  where
    above : (fs : List Field) → stands t rest ≡ false → Ends (suc t) fs (drop (size fs) rest) → Ends least fs (drop (size fs) rest)
    above [] e ends = λ tag p g s. ⊎_elim (λ z. true≢false (sym (rw z at s) ∙ e)) (λ l. ends tag p l s) (next tag p g)
    above (x ∷ fs) e ends = ends

    by : (s : Bool) → stands t rest ≡ s → Reading (suc t) (fields ts (drop (3 + told rest) rest)) (drop (3 + told rest) rest) → Reading (suc t) (fields ts rest) rest → Reading least (cond s (field t (content rest) ∷ fields ts (drop (3 + told rest) rest)) (fields ts rest)) rest
    by true e r q =
        let n = length_content rest (all_there t rest e) in
        let fs = fields ts (drop (3 + told rest) rest) in
        let place : 3 + length (content rest) + size fs ≡ 3 + told rest + size fs = omega arith in
        record {
          before = then {f = field t (content rest)} h o (omega (arith, n, told_few rest b)) r.before;
          whole = rw (place, ← drop-drop (size fs) (3 + told rest) rest, append_assoc (content rest) (captured fs) _, r.whole) (field_again t rest b e);
          ended = rw (place, ← drop-drop (size fs) (3 + told rest) rest) r.ended;
        }
    by false e r q =
        record {
          before = lower (omega arith) q.before;
          whole = q.whole;
          ended = above (fields ts rest) e q.ended;
        }

-- Tags before 89h are tags, and the others are 89h.
other_known : {tag : ℕ} → Other tag → Known tag
other_known (inl e) = inl e
other_known (inr (inl e)) = inr (inl e)
other_known (inr (inr (inl e))) = inr (inr (inl e))
other_known (inr (inr (inr e))) = inr (inr (inr (inl e)))

known_other : {tag : ℕ} → Known tag → Other tag ⊎ (tag ≡ 0x89)
known_other (inl e) = inl (inl e)
known_other (inr (inl e)) = inl (inr (inl e))
known_other (inr (inr (inl e))) = inl (inr (inr (inl e)))
known_other (inr (inr (inr (inl e)))) = inl (inr (inr (inr e)))
known_other (inr (inr (inr (inr e)))) = inr e

known_most : {tag : ℕ} → Known tag → tag ≤ 0x89
known_most k = ⊎_elim (λ o. omega (arith, below_89 o)) (λ e. omega arith) (known_other k)

-- Fields before 89h are fields of a capture, also with one more behind them.
other_right : (f : Field) → Other f.tag → length f.bytes < 0x10000 → Right f
other_right f o l = record { known = other_known o; two_bytes = l; whole_89h = λ e. absurd (omega (arith, below_89 o)) }

rising : {least : ℕ} {fs : List Field} → Before least fs → Rising least fs
rising none = no_more
rising (then {f = f} h o l b) = more h (other_right f o l) (rising b)

with_one : {least : ℕ} {fs : List Field} → Before least fs → (g : Field) → Right g → bound least fs ≤ g.tag → Rising least (fs ++ (g ∷ []))
unfolding bound
with_one none g r h = more h r no_more
with_one (then {f = f} h o l b) g r k = more h (other_right f o l) (with_one b g r k)

bound_with_one : (least : ℕ) (fs : List Field) (g : Field) → bound least (fs ++ (g ∷ [])) ≡ suc g.tag
unfolding bound
bound_with_one least [] g = refl
bound_with_one least (f ∷ fs) g = bound_with_one (suc f.tag) fs g

-- And fields with one more behind them are fields before 89h.
module _ (g : Field) where
  one_right : {least : ℕ} (fs : List Field) → Rising least (fs ++ (g ∷ [])) → Right g
  one_right [] (more h r s) = r
  one_right (f ∷ fs) (more h r s) = one_right fs s

  one_above : {least : ℕ} (fs : List Field) → Rising least (fs ++ (g ∷ [])) → bound least fs ≤ g.tag
  unfolding bound
  one_above [] (more h r s) = h
  one_above (f ∷ fs) (more h r s) = one_above fs s

  one_above_least : {least : ℕ} (fs : List Field) → Rising least (fs ++ (g ∷ [])) → least ≤ g.tag
  one_above_least [] (more h r s) = h
  one_above_least (f ∷ fs) (more h r s) = let k = one_above_least fs s in omega (arith, h, k)

  before_one : {least : ℕ} (fs : List Field) → Rising least (fs ++ (g ∷ [])) → Before least fs
  before_one [] s = none
  before_one (f ∷ fs) (more h r s) = then h (by (known_other r.known)) r.two_bytes (before_one fs s)
    where
      by : Other f.tag ⊎ (f.tag ≡ 0x89) → Other f.tag
      by (inl o) = o
      by (inr e) = absurd (omega (arith, e, one_above_least fs s, known_most (one_right fs s).known))

-- At most 84h could follow fields before 89h.
bound_most : {least : ℕ} {fs : List Field} → Before least fs → least ≤ 0x84 → bound least fs ≤ 0x84
unfolding bound
bound_most none h = h
bound_most (then g o l b) h = bound_most b (below_89 o)

-- Fields are all before 89h, or 89h is the last of them.
record Ending (fs : List Field) : Type 0 where
  firsts : List Field
  one : Field
  parts : fs ≡ firsts ++ (one ∷ [])
  is_89h : one.tag ≡ 0x89

none_behind : (f : Field) (fs : List Field) → f.tag ≡ 0x89 → Rising (suc f.tag) fs → fs ≡ []
none_behind f [] e s = refl
none_behind f (g ∷ fs) e (more h r s) = absurd (omega (arith, e, h, known_most r.known))

before_or_ending : {least : ℕ} {fs : List Field} → Rising least fs → Before least fs ⊎ Ending fs
before_or_ending no_more = inl none
before_or_ending (more {least = least} {f = f} {fs = fs} h r s) = by (known_other r.known) (before_or_ending s)
  where
    by : Other f.tag ⊎ (f.tag ≡ 0x89) → Before (suc f.tag) fs ⊎ Ending fs → Before least (f ∷ fs) ⊎ Ending (f ∷ fs)
    by (inl o) (inl b) = inl (then h o r.two_bytes b)
    by (inl o) (inr e) = inr (record { firsts = f ∷ e.firsts; one = e.one; parts = ap (λ (l : List Field). f ∷ l) e.parts; is_89h = e.is_89h })
    by (inr z) e = inr (record { firsts = []; one = f; parts = ap (λ (l : List Field). f ∷ l) (none_behind f fs z s); is_89h = z })

-- The bytes of fields one behind the other.
captured_two : (fs gs : List Field) → captured (fs ++ gs) ≡ captured fs ++ captured gs
unfolding captured
captured_two [] gs = refl
captured_two (f ∷ fs) gs = rw (captured_two fs gs) (sym (append_assoc (encoded f) (captured fs) (captured gs)))

length_captured : (fs : List Field) → length (captured fs) ≡ size fs
unfolding captured size
length_captured [] = refl
length_captured (f ∷ fs) = omega (arith, length-append f.bytes (captured fs), length_captured fs)

-- What is laid out with 89h behind other fields, whatever is behind that: it is read as it is.
module _ (fs : List Field) (g : Field) (rest : List ℕ) (s : Rising 0 (fs ++ (g ∷ []))) (is : g.tag ≡ 0x89) where
  abbrev whole_capture : List ℕ
  whole_capture = captured fs ++ (encoded g ++ rest)

  as_laid : fields others whole_capture ≡ fs
  as_laid = read has_others fs (before_one g fs s) (encoded g ++ rest) (λ tag o h e. omega (arith, is, below_89 o, eqb-true g.tag tag ((and-eq-true_iff (eqb g.tag tag) _).0 e).0))

  laid_89 : place89 whole_capture ≡ length (captured fs)
  unfolding place89
  laid_89 = ap size as_laid ∙ sym (length_captured fs)

  at_89 : drop (place89 whole_capture) whole_capture ≡ encoded g ++ rest
  at_89 = drop_at (captured fs) (encoded g ++ rest) (place89 whole_capture) (sym laid_89)

  has_89 : has89 whole_capture ≡ true
  has_89 =
      let r = one_right g fs s in
      rw (at_89, ← is) (rw (stands_there g rest r.two_bytes, told_is g rest r.two_bytes, r.whole_89h is))

-- A capture that is laid out: its layout holds, and its fields are read as they are.
module _ {capture : List ℕ} {before : List Field} {page : List ℕ} (l : LaidOut capture before page) where
  abbrev page89 : Field
  page89 = field 0x89 page

  as_whole : capture ≡ captured before ++ (encoded page89 ++ [])
  unfolding captured
  as_whole = l.all ∙ captured_two before (page89 ∷ [])

  pub laid_fields : fields others capture ≡ before
  laid_fields = ap (fields others) as_whole ∙ as_laid before page89 [] l.rising refl

  pub laid_page : information capture ≡ page
  unfolding information
  laid_page = rw (as_whole, at_89 before page89 [] l.rising refl) (content_is page89 [] (one_right page89 before l.rising).two_bytes)

  pub laid_holds : holds capture ≡ true
  unfolding holds
  laid_holds =
      let r = one_right page89 before l.rising in
      let n : place89 (captured before ++ (encoded page89 ++ [])) + 575 ≡ length (captured before ++ (encoded page89 ++ [])) =
      omega (arith, laid_89 before page89 [] l.rising refl, length-append (captured before) (encoded page89 ++ []), length-append page [], r.whole_89h refl) in
      rw (as_whole, has_89 before page89 [] l.rising refl) (eq-eqb _ _ n)

-- What is read of a capture of bytes: the fields before 89h, and what stands behind them.
abbrev found : List ℕ → List Field
found capture = fields others capture

abbrev behind : List ℕ → List ℕ
behind capture = drop (place89 capture) capture

-- What stands there as 89h.
abbrev found89 : List ℕ → Field
found89 capture = field 0x89 (content (behind capture))

module _ (capture : List ℕ) (b : Bytewise capture) where
  is_read : Reading 0 (found capture) capture
  is_read = reading has_others capture b

  all_of_it : captured (found capture) ++ behind capture ≡ capture
  unfolding place89
  all_of_it = is_read.whole

  bytes_there : Bytewise (behind capture)
  bytes_there = bytes_behind (place89 capture) capture b

  -- 89h, where it stands.
  found_89 : has89 capture ≡ true → Right (found89 capture)
  found_89 e =
      let there = (and-eq-true_iff (stands 0x89 (behind capture)) _).0 e in
      let n = length_content (behind capture) (all_there 0x89 (behind capture) there.0) in
      record { known = inr (inr (inr (inr refl))); two_bytes = omega (arith, n, told_few (behind capture) bytes_there); whole_89h = λ z. n ∙ eqb-true _ _ there.1 }

  behind_89 : has89 capture ≡ true → encoded (found89 capture) ++ drop 575 (behind capture) ≡ behind capture
  behind_89 e =
      let there = (and-eq-true_iff (stands 0x89 (behind capture)) _).0 e in
      ap (λ (n : ℕ). encoded (found89 capture) ++ drop (3 + n) (behind capture)) (sym (eqb-true (told (behind capture)) 572 there.1))
      ∙ field_again 0x89 (behind capture) bytes_there there.0

  with_89 : has89 capture ≡ true → Rising 0 (found capture ++ (found89 capture ∷ []))
  with_89 e = with_one is_read.before (found89 capture) (found_89 e) (omega (arith, bound_most is_read.before (omega arith)))

  all_with_89 : has89 capture ≡ true → capture ≡ captured (found capture ++ (found89 capture ∷ [])) ++ drop 575 (behind capture)
  unfolding captured
  all_with_89 e =
      sym
      (ap (λ (l : List ℕ). l ++ drop 575 (behind capture)) (captured_two (found capture) (found89 capture ∷ []))
      ∙ append_assoc (captured (found capture)) (encoded (found89 capture) ++ []) (drop 575 (behind capture))
      ∙ ap (λ (l : List ℕ). captured (found capture) ++ l) (append_assoc (encoded (found89 capture)) [] (drop 575 (behind capture)) ∙ behind_89 e)
      ∙ all_of_it)

  place_before_89 : length (captured (found capture)) ≡ place89 capture
  unfolding place89
  place_before_89 = length_captured (found capture)

  place_with_89 : has89 capture ≡ true → length (captured (found capture ++ (found89 capture ∷ []))) ≡ place89 capture + 575
  unfolding captured
  place_with_89 e =
      rw (captured_two (found capture) (found89 capture ∷ []))
      (omega (arith, length-append (captured (found capture)) (encoded (found89 capture) ++ []), length-append (content (behind capture)) [], place_before_89, (found_89 e).whole_89h refl))

  -- Where the layout holds, it is laid out.
  pub holds_laid : holds capture ≡ true → LaidOut capture (fields others capture) (information capture)
  unfolding holds information
  holds_laid e =
      let has = ((and-eq-true_iff (has89 capture) _).0 e).0 in
      let nothing : drop 575 (behind capture) ≡ [] = drop_of_length-le (behind capture) {i = 575} (omega (arith, ends_89 capture e, length-drop (place89 capture) capture)) in
      record { all = all_with_89 has ∙ rw nothing (append-nil _); rising = with_89 has }

  -- Where it does not, it is broken at its end: none follows what is read before 89h, or nothing at all follows 89h.
  none_there : has89 capture ≡ false → (f : Field) (rest : List ℕ) → behind capture ≡ encoded f ++ rest → Rising 0 (found capture ++ (f ∷ [])) → ⊥
  unfolding place89
  none_there e f rest there s =
      let r = one_right f (found capture) s in
      ⊎_elim
      (λ o. is_read.ended f.tag o (one_above f (found capture) s) (rw there (stands_there f rest r.two_bytes)))
      (λ z. true≢false (sym (rw (there, ← z) (rw (stands_there f rest r.two_bytes, told_is f rest r.two_bytes, r.whole_89h z))) ∙ e))
      (known_other r.known)

  none_behind_89 : has89 capture ≡ true → (f : Field) → Rising 0 ((found capture ++ (found89 capture ∷ [])) ++ (f ∷ [])) → ⊥
  none_behind_89 e f s = omega (arith, one_above f (found capture ++ (found89 capture ∷ [])) s, bound_with_one 0 (found capture) (found89 capture), known_most (one_right f (found capture ++ (found89 capture ∷ [])) s).known)

  pub broken_there : holds capture ≡ false → BrokenAt capture (end capture)
  broken_there e = by (has89 capture) refl
    where
      not_laid : (others : List Field) (page : List ℕ) → LaidOut capture others page → ⊥
      not_laid others page l = true≢false (sym (laid_holds l) ∙ e)

      by : (t : Bool) → has89 capture ≡ t → BrokenAt capture (cond t (place89 capture + 575) (place89 capture))
      by true h =
          record {
            before = found capture ++ (found89 capture ∷ []);
            rest = drop 575 (behind capture);
            all = all_with_89 h;
            up_to_there = place_with_89 h;
            rising = with_89 h;
            none_follows = λ f rest there s. none_behind_89 h f s;
            not_laid_out = not_laid;
          }
      by false h =
          record {
            before = found capture;
            rest = behind capture;
            all = sym all_of_it;
            up_to_there = place_before_89;
            rising = rising is_read.before;
            none_follows = none_there h;
            not_laid_out = not_laid;
          }

-- And where it is broken at a place, it does not hold, and that place is its end.
module _ {capture : List ℕ} {place : ℕ} (b : Bytewise capture) (w : BrokenAt capture place) where
  pub broken_fails : holds capture ≡ false
  broken_fails = by (holds capture) refl
    where
      by : (t : Bool) → holds capture ≡ t → t ≡ false
      by true e = absurd (w.not_laid_out (found capture) (information capture) (holds_laid capture b e))
      by false e = refl

  -- It is broken at a field behind 89h,
  behind_89h : Ending w.before → end capture ≡ place
  unfolding captured
  behind_89h z =
      let s : Rising 0 (z.firsts ++ (z.one ∷ [])) = rw z.parts at w.rising in
      let r = one_right z.one z.firsts s in
      let two = captured_two z.firsts (z.one ∷ []) in
      let all : capture ≡ captured z.firsts ++ (encoded z.one ++ w.rest) =
      w.all ∙ ap (λ (l : List Field). captured l ++ w.rest) z.parts ∙ ap (λ (l : List ℕ). l ++ w.rest) two
      ∙ append_assoc (captured z.firsts) (encoded z.one ++ []) w.rest
      ∙ ap (λ (l : List ℕ). captured z.firsts ++ l) (append_assoc (encoded z.one) [] w.rest) in
      let size = ap (λ (l : List Field). length (captured l)) z.parts ∙ ap length two ∙ length-append (captured z.firsts) (encoded z.one ++ []) in
      rw (all, has_89 z.firsts z.one w.rest s z.is_89h, laid_89 z.firsts z.one w.rest s z.is_89h)
      (omega (arith, w.up_to_there, size, length-append z.one.bytes [], r.whole_89h z.is_89h))

  -- or where 89h is missing.
  module _ (before : Before 0 w.before) where
    rest_is : drop place capture ≡ w.rest
    rest_is = ap (drop place) w.all ∙ drop_at (captured w.before) w.rest place w.up_to_there

    rest_bytes : Bytewise w.rest
    rest_bytes = rw rest_is at (bytes_behind place capture b)

    as_broken : fields others capture ≡ w.before
    as_broken =
        ap (fields others) w.all
        ∙ read has_others w.before before w.rest
        (λ tag o h e.
        let f = field tag (content w.rest) in
        let n = length_content w.rest (all_there tag w.rest e) in
        w.none_follows f (drop (3 + told w.rest) w.rest) (sym (field_again tag w.rest rest_bytes e))
        (with_one before f (other_right f o (omega (arith, n, told_few w.rest rest_bytes))) h))

    broken_89 : place89 capture ≡ place
    unfolding place89
    broken_89 = ap size as_broken ∙ sym (length_captured w.before) ∙ w.up_to_there

    no_89h : end capture ≡ place
    no_89h = by (has89 capture) refl
      where
        by : (t : Bool) → has89 capture ≡ t → cond t (place89 capture + 575) (place89 capture) ≡ place
        by true e =
            let there : behind capture ≡ w.rest = ap (λ (n : ℕ). drop n capture) broken_89 ∙ rest_is in
            absurd (w.none_follows (found89 capture) (drop 575 (behind capture)) (sym (behind_89 capture b e ∙ there)) (rw as_broken at (with_89 capture b e)))
        by false e = broken_89

  pub broken_ends : end capture ≡ place
  broken_ends = ⊎_elim no_89h behind_89h (before_or_ending w.rising)

-- Fields that are put one before the other, or left out.
lower_rising : {least more-least : ℕ} {fs : List Field} → least ≤ more-least → Rising more-least fs → Rising least fs
lower_rising h no_more = no_more
lower_rising h (more g r s) = more (le_trans h g) r s

pub put_first : {least : ℕ} {fs : List Field} (present : Bool) (f : Field) → least ≤ f.tag → (present ≡ true → Right f) → Rising (suc f.tag) fs → Rising least (cond present (f ∷ []) [] ++ fs)
put_first true f h r s = more h (r refl) s
put_first {least} false f h r s = let up : least ≤ suc f.tag = omega arith in lower_rising up s

pub put_last : {least : ℕ} (f : Field) → least ≤ f.tag → Right f → Rising least (f ∷ [])
put_last f h r = more h r no_more
