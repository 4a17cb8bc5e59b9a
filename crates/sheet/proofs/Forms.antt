-- A whole form: its parts one after the other.
use Rattle.std.proofs.Common.{◌≡◌, ℕ, ◌<◌, List, [], ◌∷◌, ◌++◌, codes, sym, refl, ap, ◌∙◌, ap₂, append_assoc, arith}
use Rattle.promise.specs.declared.kinds.CodeName.{CodeName}
use Rattle.sheet.specs.declared.form.LinkForm.{LinkForm}
use Rattle.sheet.specs.Form.{typed_limit, text}
use Rattle.sheet.specs.Language.{Texts, Just, Then, StopsAt, Distinct}
use Rattle.sheet.specs.Reading.{SomeOf, field_text, NumberField, code_field_text, CodeField, FormText}
use Rattle.sheet.proofs.Language.{stops_at_alike, stops_at_in_first, stops_at_in_second, just_distinct, then_distinct}
use Rattle.sheet.proofs.Parts.{field_distinct, code_distinct}

abbrev Numbered : List ℕ → Texts
Numbered name = SomeOf (NumberField name)

-- what is left of a form behind its code, depth, symbol, rows, subframe rows and miss limit
abbrev pub BehindMisses : Texts
BehindMisses = Just (41 ∷ [])

abbrev pub BehindSub : Texts
BehindSub = Then (Numbered (codes "misses")) BehindMisses

abbrev pub BehindRows : Texts
BehindRows = Then (Numbered (codes "sub")) BehindSub

abbrev pub BehindSymbol : Texts
BehindSymbol = Then (Numbered (codes "rows")) BehindRows

abbrev pub BehindDepth : Texts
BehindDepth = Then (Numbered (codes "symbol")) BehindSymbol

abbrev pub BehindCode : Texts
BehindCode = Then (Numbered (codes "depth")) BehindDepth

abbrev pub Whole : Texts
Whole = Then (SomeOf CodeField) BehindCode

-- a form's parts make its text
parts_make : (f : LinkForm)
    → code_field_text f.code ++ (field_text (codes "depth") f.depth ++ (field_text (codes "symbol") f.symbol ++ (field_text (codes "rows") f.rows
    ++ (field_text (codes "sub") f.subframe_rows ++ (field_text (codes "misses") f.miss_limit ++ (41 ∷ [])))))) ≡ text f
unfolding text
parts_make f = simp append_assoc

-- some text of a numbered part and what is behind it
some_behind : (name : List ℕ) (K : Texts) (k : List ℕ) → K k → Then (Numbered name) K (field_text name 0 ++ k)
some_behind name K k some = record { first = field_text name 0; second = k; cut = refl; of_first = (0, (omega arith, refl)); of_second = some }

pub some_sub : (t : List ℕ) × BehindSub t
some_sub = (field_text (codes "misses") 0 ++ (41 ∷ []), some_behind (codes "misses") BehindMisses (41 ∷ []) refl)

pub some_rows : (t : List ℕ) × BehindRows t
some_rows = (field_text (codes "sub") 0 ++ some_sub.0, some_behind (codes "sub") BehindSub some_sub.0 some_sub.1)

pub some_symbol : (t : List ℕ) × BehindSymbol t
some_symbol = (field_text (codes "rows") 0 ++ some_rows.0, some_behind (codes "rows") BehindRows some_rows.0 some_rows.1)

pub some_depth : (t : List ℕ) × BehindDepth t
some_depth = (field_text (codes "symbol") 0 ++ some_symbol.0, some_behind (codes "symbol") BehindSymbol some_symbol.0 some_symbol.1)

some_code : (t : List ℕ) × BehindCode t
some_code = (field_text (codes "depth") 0 ++ some_depth.0, some_behind (codes "depth") BehindDepth some_depth.0 some_depth.1)

whole_out : (t : List ℕ) → Whole t → SomeOf FormText t
whole_out t p =
    let depth = p.of_second in
    let symbol = depth.of_second in
    let rows = symbol.of_second in
    let sub = rows.of_second in
    let misses = sub.of_second in
    let f : LinkForm = record {
      code = p.of_first.0;
      depth = depth.of_first.0;
      symbol = symbol.of_first.0;
      rows = rows.of_first.0;
      subframe_rows = sub.of_first.0;
      miss_limit = misses.of_first.0;
    } in (
      f,
      (
        record {
          depth = depth.of_first.1.0;
          symbol = symbol.of_first.1.0;
          rows = rows.of_first.1.0;
          subframe_rows = sub.of_first.1.0;
          miss_limit = misses.of_first.1.0;
        },
        cuts p.cut p.of_first.1 (cuts depth.cut depth.of_first.1.1 (cuts symbol.cut symbol.of_first.1.1 (cuts rows.cut rows.of_first.1.1 (cuts sub.cut sub.of_first.1.1 (cuts misses.cut misses.of_first.1.1 misses.of_second))))) ∙ parts_make f,
      ),
    )
  where
    cuts : {t a b x y : List ℕ} → t ≡ a ++ b → a ≡ x → b ≡ y → t ≡ x ++ y
    cuts e f g = e ∙ ap₂ (λ u v. u ++ v) f g

whole_in : (t : List ℕ) → SomeOf FormText t → Whole t
whole_in t p =
    let f = p.0 in
    let typed = p.1.0 in
    record {
      first = code_field_text f.code;
      second = _;
      cut = p.1.1 ∙ sym (parts_make f);
      of_first = (f.code, refl);
      of_second = numbered (codes "depth") BehindDepth f.depth typed.depth (numbered (codes "symbol") BehindSymbol f.symbol typed.symbol (numbered (codes "rows") BehindRows f.rows typed.rows
          (numbered (codes "sub") BehindSub f.subframe_rows typed.subframe_rows (numbered (codes "misses") BehindMisses f.miss_limit typed.miss_limit refl))));
    }
  where
    numbered : (name : List ℕ) (K : Texts) (n : ℕ) → n < typed_limit → {k : List ℕ} → K k → Then (Numbered name) K (field_text name n ++ k)
    numbered name K n few {k} some = record { first = field_text name n; second = k; cut = refl; of_first = (n, (few, refl)); of_second = some }

pub form_distinct : Distinct (SomeOf FormText)
form_distinct a b y z p q e = whole_distinct a b y z (whole_in a p) (whole_in b q) e
  where
    sub_distinct : Distinct BehindSub
    sub_distinct = then_distinct (Numbered (codes "misses")) BehindMisses (field_distinct (codes "misses")) (just_distinct (41 ∷ []))

    rows_distinct : Distinct BehindRows
    rows_distinct = then_distinct (Numbered (codes "sub")) BehindSub (field_distinct (codes "sub")) sub_distinct

    symbol_distinct : Distinct BehindSymbol
    symbol_distinct = then_distinct (Numbered (codes "rows")) BehindRows (field_distinct (codes "rows")) rows_distinct

    depth_distinct : Distinct BehindDepth
    depth_distinct = then_distinct (Numbered (codes "symbol")) BehindSymbol (field_distinct (codes "symbol")) symbol_distinct

    behind_distinct : Distinct BehindCode
    behind_distinct = then_distinct (Numbered (codes "depth")) BehindDepth (field_distinct (codes "depth")) depth_distinct

    whole_distinct : Distinct Whole
    whole_distinct = then_distinct (SomeOf CodeField) BehindCode code_distinct behind_distinct

-- ---- where reading a form stops

-- What reading a part answers, where it is read.
abbrev pub Taken : {V : Type 0} → (V → Texts) → V → List ℕ → List ℕ → Type 0
Taken T v line rest = (t : List ℕ) × T v t × (line ≡ t ++ rest)

-- a numbered part stops, and so does what begins with it
pub in_number : (name : List ℕ) (K : Texts) → ((t : List ℕ) × K t) → (line at : List ℕ) → StopsAt (Numbered name) line at → StopsAt (Then (Numbered name) K) line at
in_number name K some line at s = stops_at_in_first (Numbered name) K some.0 some.1 line at s

-- a numbered part is read, and what is behind it stops
pub past_number : (name : List ℕ) (K : Texts) (line rest at : List ℕ) (n : ℕ) → Taken (NumberField name) n line rest → StopsAt K rest at → StopsAt (Then (Numbered name) K) line at
past_number name K line rest at n p s = stops_at_in_second (Numbered name) K (field_distinct name) line p.0 rest at p.2 (n, p.1) s

pub in_code : (line at : List ℕ) → StopsAt (SomeOf CodeField) line at → StopsAt (SomeOf FormText) line at
in_code line at s =
    stops_at_alike Whole (SomeOf FormText) whole_out whole_in line at (stops_at_in_first (SomeOf CodeField) BehindCode some_code.0 some_code.1 line at s)

pub past_code : (line rest at : List ℕ) (code : CodeName) → Taken CodeField code line rest → StopsAt BehindCode rest at → StopsAt (SomeOf FormText) line at
past_code line rest at code p s =
    stops_at_alike Whole (SomeOf FormText) whole_out whole_in line at (stops_at_in_second (SomeOf CodeField) BehindCode code_distinct line p.0 rest at p.2 (code, p.1) s)

-- all parts are read
pub form_read : (f : LinkForm) (line l1 l2 l3 l4 l5 l6 rest : List ℕ) → Taken CodeField f.code line l1
    → Taken (NumberField (codes "depth")) f.depth l1 l2 → Taken (NumberField (codes "symbol")) f.symbol l2 l3 → Taken (NumberField (codes "rows")) f.rows l3 l4
    → Taken (NumberField (codes "sub")) f.subframe_rows l4 l5 → Taken (NumberField (codes "misses")) f.miss_limit l5 l6 → l6 ≡ 41 ∷ rest
    → Taken FormText f line rest
form_read f line l1 l2 l3 l4 l5 l6 rest code depth symbol rows sub misses last = (
  text f,
  (record { depth = depth.1.0; symbol = symbol.1.0; rows = rows.1.0; subframe_rows = sub.1.0; miss_limit = misses.1.0 }, refl),
  joins code.2 code.1 (joins depth.2 depth.1.1 (joins symbol.2 symbol.1.1 (joins rows.2 rows.1.1 (joins sub.2 sub.1.1 (joins misses.2 misses.1.1 last)))))
      ∙ (regroup (code_field_text f.code) (field_text (codes "depth") f.depth) (field_text (codes "symbol") f.symbol) (field_text (codes "rows") f.rows) (field_text (codes "sub") f.subframe_rows) (field_text (codes "misses") f.miss_limit)
      ∙ ap (λ u. u ++ rest) (parts_make f)),
)
  where
    regroup : (a b c d e g : List ℕ) → a ++ (b ++ (c ++ (d ++ (e ++ (g ++ (41 ∷ rest)))))) ≡ (a ++ (b ++ (c ++ (d ++ (e ++ (g ++ (41 ∷ []))))))) ++ rest
    regroup a b c d e g = simp append_assoc

    joins : {l t w m r : List ℕ} → l ≡ t ++ m → t ≡ w → m ≡ r → l ≡ w ++ r
    joins e is g = e ∙ ap₂ (λ u v. u ++ v) is g
