-- What the first word of options can be, and what follows from it.
use Rattle.std.specs.Prelude.{MatchResult, OnOk, option_map, drop, slice_index, ◌==◌, if◌then◌else◌, Result, Ok, Err, OnErr, ◌≡◌}
use Rattle.std.specs.Prelude.{◌↔◌, ◌⊎◌, ℕ, suc, ◌+◌, ◌<◌, length, true, false, List, [], ◌∷◌, ◌++◌, Option, None, Some}
use Rattle.std.specs.Prelude.{refl}
use Rattle.std.proofs.Common.{sym, ap, ◌∙◌, subst, inl, inr, arith}
use Rattle.std.proofs.Math.Dec.{eqb}
use Rattle.std.proofs.Common.{get_or, add-one}
use Rattle.std.proofs.Math.Seq.{drop-cons}
use Rattle.std.proofs.lemmas.Bool.Decides.{eqb_tells}
use Rattle.std.specs.List.{flat_map, position_or_len, before_first, after_first}
use Rattle.ledger_spec.specs.Bytes.{Bytes}
use Rattle.script_form.specs.Words.{IsNumber}
use Rattle.run_words.specs.declared.options.Options.{Options}
use Rattle.run_words.specs.declared.options.Setting.{Setting}
use Rattle.run_words.specs.declared.options.Setting.TheVariants.{Number, Ledgers, Items, Liars, Actors, Interval, At, Pick}
use Rattle.run_words.specs.declared.options.Switch.{Switch}
use Rattle.run_words.specs.declared.options.Switch.TheVariants.{Quiet, Dump}
use Rattle.run_words.specs.declared.options.Name.{Name}
use Rattle.run_words.specs.declared.options.Name.TheVariants as name
use Rattle.run_words.specs.Options.{most_number, setting_word, switch_word, name_word, number_of, with_number, is_on}
use Rattle.run_words.specs.Options.{switched_on, AddsNumber, AddsSwitch, AddAll, Gives, cut_of, pending, texts, no_options}
use Rattle.std.specs.Borrow.{Bor}
use Rattle.std.specs.Option.{is_some}
use Rattle.run_words.specs.declared.options.Usage.{Usage}

-- the first word is a setting, and the second one its number
pub record Apart (w : Bytes) (ws : List Bytes) (o v : Options) : Type 0 where
  pub setting : Setting
  pub n : ℕ
  pub digits : Bytes
  pub behind : List Bytes
  pub word : w ≡ setting_word setting
  pub rest : ws ≡ digits ∷ behind
  pub is_number : IsNumber digits most_number n
  pub new : number_of o setting ≡ None
  pub gives : Gives behind (with_number o setting n) v

-- the first word is a setting with its number
pub record Joined (w : Bytes) (ws : List Bytes) (o v : Options) : Type 0 where
  pub setting : Setting
  pub n : ℕ
  pub digits : Bytes
  pub word : w ≡ setting_word setting ++ 61 ∷ digits
  pub is_number : IsNumber digits most_number n
  pub new : number_of o setting ≡ None
  pub gives : Gives ws (with_number o setting n) v

-- the first word is a switch
pub record Alone (w : Bytes) (ws : List Bytes) (o v : Options) : Type 0 where
  pub switch : Switch
  pub word : w ≡ switch_word switch
  pub new : is_on o switch ≡ false
  pub gives : Gives ws (switched_on o switch) v

abbrev pub First : Bytes → List Bytes → Options → Options → Type 0
First w ws o v = Apart w ws o v ⊎ (Joined w ws o v ⊎ Alone w ws o v)

number_first : (w : Bytes) (ws : List Bytes) (o v mid : Options) (part : List Bytes) (parts : List (List Bytes)) (setting : Setting)
    (n : ℕ)
    → AddsNumber part o setting n mid → w ∷ ws ≡ part ++ flat_map (λ p. p) parts → AddAll parts mid v → First w ws o v
number_first w ws o v mid part parts setting n q e rest =
    let gives : Gives (flat_map (λ p. p) parts) (with_number o setting n) v =
    (parts, refl, subst (λ (x : Options). AddAll parts x v) q.after rest) in
    elim q.spelled [
      | inl e1 ↦
          let e2 : w ∷ ws ≡ setting_word setting ∷ q.digits ∷ flat_map (λ p. p) parts = e
          ∙ ap (λ (p : List Bytes). p ++ flat_map (λ p. p) parts) e1 in
          inl (record {
            setting = setting;
            n = n;
            digits = q.digits;
            behind = flat_map (λ p. p) parts;
            word = cc;
            rest = cc;
            is_number =
                q.is_number;
            new = q.new;
            gives = gives;
          })
      | inr e1 ↦
          let e2 : w ∷ ws ≡ (setting_word setting ++ 61 ∷ q.digits) ∷ flat_map (λ p. p) parts = e
          ∙ ap (λ (p : List Bytes). p ++ flat_map (λ p. p) parts) e1 in
          let e3 : flat_map (λ p. p) parts ≡ ws = cc in
          inr (inl (record {
            setting = setting;
            n = n;
            digits = q.digits;
            word = cc;
            is_number = q.is_number;
            new = q.new;
            gives = subst
                (λ (x : List Bytes). Gives x (with_number o setting n) v) e3 gives;
          }))
    ]

switch_first : (w : Bytes) (ws : List Bytes) (o v mid : Options) (part : List Bytes) (parts : List (List Bytes)) (switch : Switch)
    → AddsSwitch part o switch mid → w ∷ ws ≡ part ++ flat_map (λ p. p) parts → AddAll parts mid v → First w ws o v
switch_first w ws o v mid part parts switch q e rest =
    let gives : Gives (flat_map (λ p. p) parts) (switched_on o switch) v =
    (parts, refl, subst (λ (x : Options). AddAll parts x v) q.after rest) in
    let e2 : w ∷ ws ≡ switch_word switch ∷ flat_map (λ p. p) parts = e ∙ ap (λ (p : List Bytes). p ++ flat_map (λ p. p) parts) q.spelled in
    let e3 : flat_map (λ p. p) parts ≡ ws = cc in
    inr (inr (record {
      switch = switch;
      word = cc;
      new = q.new;
      gives = subst (λ (x : List Bytes). Gives x (switched_on o switch) v) e3
          gives;
    }))

first_parts : (w : Bytes) (ws : List Bytes) (o v : Options) (parts : List (List Bytes)) → w ∷ ws ≡ flat_map (λ p. p) parts
    → AddAll parts o v → First w ws o v
first_parts w ws o v [] e a = absurd cc
first_parts w ws o v (part ∷ parts) e a = elim a.1 [
  | inl p ↦ number_first w ws o v a.0 part parts p.0 p.1 p.2 e a.2
  | inr p ↦ switch_first w ws o v a.0 part parts p.0 p.1 e a.2
]

-- options that begin with this word begin in one of three ways
pub first_of_words : (w : Bytes) (ws : List Bytes) (o v : Options) → Gives (w ∷ ws) o v → First w ws o v
first_of_words w ws o v g = first_parts w ws o v g.0 g.1 g.2

-- and each of these begins options
pub from_apart : (ws : List Bytes) (o v : Options) (setting : Setting) (n : ℕ) (digits : Bytes)
    → IsNumber digits most_number n → number_of o setting ≡ None → Gives ws (with_number o setting n) v
    → Gives (setting_word setting ∷ digits ∷ ws) o v
from_apart ws o v setting n digits is new g = (
  (setting_word setting ∷ digits ∷ []) ∷ g.0,
  ap (λ (x : List Bytes). setting_word setting ∷ digits ∷ x) g.1,
  (
    with_number o setting n,
    inl (
      setting,
      n,
      record {
        digits = digits;
        is_number = is;
        spelled = inl refl;
        new = new;
        after = refl;
      },
    ),
    g.2,
  ),
)

pub from_joined : (ws : List Bytes) (o v : Options) (setting : Setting) (n : ℕ) (digits : Bytes)
    → IsNumber digits most_number n → number_of o setting ≡ None → Gives ws (with_number o setting n) v
    → Gives ((setting_word setting ++ 61 ∷ digits) ∷ ws) o v
from_joined ws o v setting n digits is new g = (
  ((setting_word setting ++ 61 ∷ digits) ∷ []) ∷ g.0,
  ap (λ (x : List Bytes). (setting_word setting ++ 61 ∷ digits) ∷ x) g.1,
  (
    with_number o setting n,
    inl (
      setting,
      n,
      record {
        digits = digits;
        is_number = is;
        spelled = inr refl;
        new = new;
        after = refl;
      },
    ),
    g.2,
  ),
)

pub from_alone : (ws : List Bytes) (o v : Options) (switch : Switch)
    → is_on o switch ≡ false → Gives ws (switched_on o switch) v → Gives (switch_word switch ∷ ws) o v
from_alone ws o v switch new g = (
  (switch_word switch ∷ []) ∷ g.0,
  ap (λ (x : List Bytes). switch_word switch ∷ x) g.1,
  (switched_on o switch, inr (switch, record { spelled = refl; new = new; after = refl }), g.2),
)

-- where an option's word is cut
pub cut_setting : (s : Setting) → cut_of (setting_word s) ≡ (setting_word s, None)
cut_setting Number = refl
cut_setting Ledgers = refl
cut_setting Items = refl
cut_setting Liars = refl
cut_setting Actors = refl
cut_setting Interval = refl
cut_setting At = refl
cut_setting Pick = refl

pub cut_joined : (s : Setting) (digits : Bytes) → cut_of (setting_word s ++ 61 ∷ digits) ≡ (setting_word s, Some digits)
cut_joined Number digits = refl
cut_joined Ledgers digits = refl
cut_joined Items digits = refl
cut_joined Liars digits = refl
cut_joined Actors digits = refl
cut_joined Interval digits = refl
cut_joined At digits = refl
cut_joined Pick digits = refl

pub cut_switch : (s : Switch) → cut_of (switch_word s) ≡ (switch_word s, None)
cut_switch Quiet = refl
cut_switch Dump = refl

-- one number stands for digits
pub one_number : (digits : Bytes) (n m : ℕ) → IsNumber digits most_number n → IsNumber digits most_number m → n ≡ m
one_number digits n m a b = a.value ∙ sym b.value

-- a name that was cut off a word, and what stands behind it
pub cut_found : (bs : Bytes) → position_or_len (λ b. eqb b 61) bs < length bs
    → cut_of bs ≡ (before_first (λ b. eqb b 61) bs, Some (after_first (λ b. eqb b 61) bs))
cut_found [] lt = absurd (omega arith)
cut_found (x ∷ xs) lt = elim (eqb_tells x 61) [
  | inl h ↦ rw h.0 refl
  | inr h ↦
      let p = position_or_len (λ b. eqb b 61) xs in
      let lt2 : p < length xs = let l2 : 1 + p < suc (length xs) = rw h.0 at lt in omega arith in
      let one : 1 + p ≡ suc p = omega arith in
      let next : suc p + 1 ≡ suc (p + 1) = omega arith in
      rw (h.0, cut_found xs lt2, one, next) refl
]

pub cut_not_found : (bs : Bytes) → position_or_len (λ b. eqb b 61) bs ≡ length bs → cut_of bs ≡ (bs, None)
cut_not_found [] e = refl
cut_not_found (x ∷ xs) e = elim (eqb_tells x 61) [
  | inl h ↦ absurd (let z : 0 ≡ suc (length xs) = rw h.0 at e in omega arith)
  | inr h ↦
      let e2 : position_or_len (λ b. eqb b 61) xs ≡ length xs = let l2 : 1 + position_or_len (λ b. eqb b 61) xs
      ≡ suc (length xs) = rw h.0 at e in omega arith in
      rw (h.0, cut_not_found xs e2) refl
]

-- what is before a cut is the word or stands before the `=`
pub cut_none : (w nm : Bytes) → cut_of w ≡ (nm, None) → w ≡ nm
cut_none [] nm e = ap (λ (p : Bytes × Option Bytes). p.0) e
cut_none (x ∷ xs) nm e = elim (eqb_tells x 61) [
  | inl h ↦ absurd (let e2 : Some xs ≡ None = ap (λ (p : Bytes × Option Bytes). p.1) (rw h.0 at e) in cc)
  | inr h ↦
      let e2 : x ∷ (cut_of xs).0 ≡ nm = ap (λ (p : Bytes × Option Bytes). p.0) (rw h.0 at e) in
      let e3 : (cut_of xs).1 ≡ None = ap (λ (p : Bytes × Option Bytes). p.1) (rw h.0 at e) in
      ap (λ (ys : Bytes). x ∷ ys) (cut_none xs (cut_of xs).0 (λ i. ((cut_of xs).0, e3 i))) ∙ e2
]

pub cut_some : (w nm digits : Bytes) → cut_of w ≡ (nm, Some digits) → w ≡ nm ++ 61 ∷ digits
cut_some [] nm digits e = absurd (let e2 : None ≡ Some digits = ap (λ (p : Bytes × Option Bytes). p.1) e in cc)
cut_some (x ∷ xs) nm digits e = elim (eqb_tells x 61) [
  | inl h ↦
      let e2 : [] ≡ nm = ap (λ (p : Bytes × Option Bytes). p.0) (rw h.0 at e) in
      let e3 : Some xs ≡ Some digits = ap (λ (p : Bytes × Option Bytes). p.1) (rw h.0 at e) in
      let e4 : xs ≡ digits = cc in
      subst (λ (n : Bytes). x ∷ xs ≡ n ++ 61 ∷ digits) e2 (λ i. h.1 i ∷ e4 i)
  | inr h ↦
      let e2 : x ∷ (cut_of xs).0 ≡ nm = ap (λ (p : Bytes × Option Bytes). p.0) (rw h.0 at e) in
      let e3 : (cut_of xs).1 ≡ Some digits = ap (λ (p : Bytes × Option Bytes). p.1) (rw h.0 at e) in
      ap (λ (ys : Bytes). x ∷ ys) (cut_some xs (cut_of xs).0 digits (λ i. ((cut_of xs).0, e3 i))) ∙ ap (λ (n : Bytes). n ++ 61 ∷ digits) e2
]

-- which option a name is: the one that was found, if any
abbrev pub Only : Bytes → Option Name → Type 0
Only nm found = (n : Name) → nm ≡ name_word n → found ≡ Some n

-- the word is an option's name, as it was cut
name_is : (w u nm : Bytes) (x y : Option Bytes) → w ≡ u → cut_of w ≡ (nm, x) → cut_of u ≡ (u, y) → (nm ≡ u) × (x ≡ y)
name_is w u nm x y e a b = let c : (nm, x) ≡ (u, y) = sym a ∙ ap cut_of e
    ∙ b in (ap (λ (p : Bytes × Option Bytes). p.0) c, ap (λ (p : Bytes × Option Bytes). p.1) c)

joined_is : (w u nm digits : Bytes) (x : Option Bytes) → w ≡ u ++ 61 ∷ digits → cut_of w ≡ (nm, x)
    → cut_of (u ++ 61 ∷ digits) ≡ (u, Some digits) → (nm ≡ u) × (x ≡ Some digits)
joined_is w u nm digits x e a b = let c : (nm, x) ≡ (u, Some digits) = sym a ∙ ap cut_of e
    ∙ b in (ap (λ (p : Bytes × Option Bytes). p.0) c, ap (λ (p : Bytes × Option Bytes). p.1) c)

-- the three ways, where the word was cut and the option was found
pub record Ways (w : Bytes) (ws : List Bytes) (o v : Options) (found : Option Name) (joined : Option Bytes) (nm : Bytes) : Type 0 where
  pub ways : ((a : Apart w ws o v) × (found ≡ Some (name.Setting a.setting)) × (joined ≡ None))
      ⊎ (((a : Joined w ws o v) × (found ≡ Some (name.Setting a.setting)) × (joined ≡ Some a.digits))
      ⊎ ((a : Alone w ws o v) × (found ≡ Some (name.Switch a.switch)) × (joined ≡ None)))

pub ways_of : (w nm : Bytes) (ws : List Bytes) (o v : Options) (found : Option Name) (joined : Option Bytes)
    → cut_of w ≡ (nm, joined) → Only nm found → Gives (w ∷ ws) o v → Ways w ws o v found joined nm
ways_of w nm ws o v found joined e only g = record {
  ways = elim (first_of_words w ws o v g) [
    | inl a ↦ let f = name_is w (setting_word a.setting) nm joined None a.word e (cut_setting a.setting) in
        inl (a, only (name.Setting a.setting) f.0, f.1)
    | inr b ↦ elim b [
      | inl a ↦ let f = joined_is w (setting_word a.setting) nm a.digits joined a.word e (cut_joined a.setting a.digits) in
          inr (inl (a, only (name.Setting a.setting) f.0, f.1))
      | inr a ↦ let f = name_is w (switch_word a.switch) nm joined None a.word e (cut_switch a.switch) in
          inr (inr (a, only (name.Switch a.switch) f.0, f.1))
    ]
  ];
}

-- a switch was found
pub switch_step : (all ws : List Bytes) (w nm : Bytes) (o v : Options) (s : Switch) → all ≡ w ∷ ws → cut_of w ≡ (nm, None)
    → nm ≡ switch_word s
    → Only nm (Some (name.Switch s)) → is_on o s ≡ false → Gives all o v ↔ Gives ws (switched_on o s) v
switch_step all ws w nm o v s is e named only new = (
  (λ g. elim (ways_of w nm ws o v (Some (name.Switch s)) None e only (subst (λ (x : List Bytes). Gives x o v) is g)).ways [
    | inl a ↦ absurd (let f = a.1 in cc)
    | inr b ↦ elim b [
      | inl a ↦ absurd (let f = a.1 in cc)
      | inr a ↦ let f = a.1 in let same : a.0.switch ≡ s = cc in subst (λ (x : Switch). Gives ws (switched_on o x) v) same a.0.gives
    ]
  ]),
  (λ g. let word : w ≡ switch_word s = cut_none w nm e ∙ named in
      subst (λ (x : List Bytes). Gives x o v) (sym (is ∙ ap (λ (x : Bytes). x ∷ ws) word)) (from_alone ws o v s new g)),
)

pub switch_twice : (all ws : List Bytes) (w nm : Bytes) (o v : Options) (s : Switch) → all ≡ w ∷ ws → cut_of w ≡ (nm, None)
    → Only nm (Some (name.Switch s)) → is_on o s ≡ true → Gives all o v → ⊥
switch_twice all ws w nm o v s is e only on g = elim (ways_of w nm ws o v (Some (name.Switch s)) None e only
    (subst (λ (x : List Bytes). Gives x o v) is g)).ways [
      | inl a ↦ (let f = a.1 in cc)
      | inr b ↦ elim b [
        | inl a ↦ (let f = a.1 in cc)
        | inr a ↦ let f = a.1 in let same : a.0.switch ≡ s = cc in let off : is_on o s
            ≡ false = subst (λ (x : Switch). is_on o x ≡ false) same a.0.new in cc
      ]
    ]

-- a setting was found, and its number behind an `=`
pub joined_step : (all ws : List Bytes) (w nm digits : Bytes) (o v : Options) (s : Setting) (n : ℕ) → all ≡ w ∷ ws
    → cut_of w ≡ (nm, Some digits) → nm ≡ setting_word s
    → Only nm (Some (name.Setting s)) → IsNumber digits most_number n → number_of o s ≡ None
    → Gives all o v ↔ Gives ws (with_number o s n) v
joined_step all ws w nm digits o v s n is e named only number new = (
  (λ g. elim (ways_of w nm ws o v (Some (name.Setting s)) (Some digits) e only (subst (λ (x : List Bytes). Gives x o v) is g)).ways [
    | inl a ↦ absurd (let f = a.2 in cc)
    | inr b ↦ elim b [
      | inl a ↦ let f = a.1 in let f2 = a.2 in
          let same : a.0.setting ≡ s = cc in let same2 : a.0.digits ≡ digits = cc in
          let nums : a.0.n ≡ n = one_number digits a.0.n n (subst (λ (d : Bytes). IsNumber d most_number a.0.n) same2 a.0.is_number)
          number in
          subst (λ (x : Setting). Gives ws (with_number o x n) v) same
          (subst (λ (x : ℕ). Gives ws (with_number o a.0.setting x) v) nums a.0.gives)
      | inr a ↦ absurd (let f = a.2 in cc)
    ]
  ]),
  (λ g. let word : w ≡ setting_word s ++ 61 ∷ digits = cut_some w nm digits e ∙ ap (λ (x : Bytes). x ++ 61 ∷ digits) named in
      subst (λ (x : List Bytes). Gives x o v) (sym (is ∙ ap (λ (x : Bytes). x ∷ ws) word)) (from_joined ws o v s n digits number new g)),
)

pub joined_wrong : (all ws : List Bytes) (w nm digits : Bytes) (o v : Options) (s : Setting) → all ≡ w ∷ ws → cut_of w ≡ (nm, Some digits)
    → Only nm (Some (name.Setting s)) → ((n : ℕ) → IsNumber digits most_number n → number_of o s ≡ None → ⊥) → Gives all o v → ⊥
joined_wrong all ws w nm digits o v s is e only wrong g = elim
    (ways_of w nm ws o v (Some (name.Setting s)) (Some digits) e only (subst (λ (x : List Bytes). Gives x o v) is g)).ways [
      | inl a ↦ (let f = a.2 in cc)
      | inr b ↦ elim b [
        | inl a ↦ let f = a.1 in let f2 = a.2 in
            let same : a.0.setting ≡ s = cc in let same2 : a.0.digits ≡ digits = cc in
            wrong a.0.n (subst (λ (d : Bytes). IsNumber d most_number a.0.n) same2 a.0.is_number)
            (subst (λ (x : Setting). number_of o x ≡ None) same a.0.new)
        | inr a ↦ (let f = a.2 in cc)
      ]
    ]

-- a setting was found, and its number is the next word
pub apart_step : (all ws behind : List Bytes) (w nm digits : Bytes) (o v : Options) (s : Setting) (n : ℕ) → all ≡ w ∷ ws
    → ws ≡ digits ∷ behind → cut_of w ≡ (nm, None) → nm ≡ setting_word s
    → Only nm (Some (name.Setting s)) → IsNumber digits most_number n → number_of o s ≡ None
    → Gives all o v ↔ Gives behind (with_number o s n) v
apart_step all ws behind w nm digits o v s n is next e named only number new = (
  (λ g. elim (ways_of w nm ws o v (Some (name.Setting s)) None e only (subst (λ (x : List Bytes). Gives x o v) is g)).ways [
    | inl a ↦ let f = a.1 in let f2 : digits ∷ behind ≡ a.0.digits ∷ a.0.behind = sym next ∙ a.0.rest in
        let same : a.0.setting ≡ s = cc in let same2 : a.0.digits ≡ digits = cc in let same3 : a.0.behind ≡ behind = cc in
        let nums : a.0.n ≡ n = one_number digits a.0.n n (subst (λ (d : Bytes). IsNumber d most_number a.0.n) same2 a.0.is_number) number
        in
        subst (λ (x : List Bytes). Gives x (with_number o s n) v) same3
        (subst (λ (x : Setting). Gives a.0.behind (with_number o x n) v) same
        (subst (λ (x : ℕ). Gives a.0.behind (with_number o a.0.setting x) v) nums a.0.gives))
    | inr b ↦ elim b [
      | inl a ↦ absurd (let f = a.2 in cc)
      | inr a ↦ absurd (let f = a.1 in cc)
    ]
  ]),
  (λ g. let word : w ≡ setting_word s = cut_none w nm e ∙ named in
      let whole : all ≡ setting_word s ∷ digits ∷ behind = is ∙ (λ i. word i ∷ next i) in
      subst (λ (x : List Bytes). Gives x o v) (sym whole) (from_apart behind o v s n digits number new g)),
)

pub apart_wrong : (all ws behind : List Bytes) (w nm digits : Bytes) (o v : Options) (s : Setting) → all ≡ w ∷ ws → ws ≡ digits ∷ behind
    → cut_of w ≡ (nm, None)
    → Only nm (Some (name.Setting s)) → ((n : ℕ) → IsNumber digits most_number n → number_of o s ≡ None → ⊥) → Gives all o v → ⊥
apart_wrong all ws behind w nm digits o v s is next e only wrong g =
    elim (ways_of w nm ws o v (Some (name.Setting s)) None e only (subst (λ (x : List Bytes). Gives x o v) is g)).ways [
      | inl a ↦ let f = a.1 in let f2 : digits ∷ behind ≡ a.0.digits ∷ a.0.behind = sym next ∙ a.0.rest in
          let same : a.0.setting ≡ s = cc in let same2 : a.0.digits ≡ digits = cc in
          wrong a.0.n (subst (λ (d : Bytes). IsNumber d most_number a.0.n) same2 a.0.is_number)
          (subst (λ (x : Setting). number_of o x ≡ None) same a.0.new)
      | inr b ↦ elim b [
        | inl a ↦ (let f = a.2 in cc)
        | inr a ↦ (let f = a.1 in cc)
      ]
    ]

-- a setting's word was the last
pub apart_alone : (all ws : List Bytes) (w nm : Bytes) (o v : Options) (s : Setting) → all ≡ w ∷ ws → ws ≡ [] → cut_of w ≡ (nm, None)
    → Only nm (Some (name.Setting s)) → Gives all o v → ⊥
apart_alone all ws w nm o v s is next e only g = elim (ways_of w nm ws o v (Some (name.Setting s)) None e only
    (subst (λ (x : List Bytes). Gives x o v) is g)).ways [
      | inl a ↦ let f2 : [] ≡ a.0.digits ∷ a.0.behind = sym next ∙ a.0.rest in cc
      | inr b ↦ elim b [
        | inl a ↦ (let f = a.2 in cc)
        | inr a ↦ (let f = a.1 in cc)
      ]
    ]

-- no option was found
pub none_found : (all ws : List Bytes) (w nm : Bytes) (joined : Option Bytes) (o v : Options) → all ≡ w ∷ ws → cut_of w ≡ (nm, joined)
    → Only nm None → Gives all o v → ⊥
none_found all ws w nm joined o v is e only g = elim (ways_of w nm ws o v None joined e only
    (subst (λ (x : List Bytes). Gives x o v) is g)).ways [
      | inl a ↦ (let f = a.1 in cc)
      | inr b ↦ elim b [ inl a ↦ (let f = a.1 in cc) | inr a ↦ (let f = a.1 in cc) ]
    ]

-- a switch has no number
pub switch_numbered : (all ws : List Bytes) (w nm digits : Bytes) (o v : Options) (s : Switch) → all ≡ w ∷ ws
    → cut_of w ≡ (nm, Some digits) → Only nm (Some (name.Switch s)) → Gives all o v → ⊥
switch_numbered all ws w nm digits o v s is e only g = elim (ways_of w nm ws o v (Some (name.Switch s)) (Some digits) e only
    (subst (λ (x : List Bytes). Gives x o v) is g)).ways [
      | inl a ↦ (let f = a.1 in cc)
      | inr b ↦ elim b [ inl a ↦ (let f = a.1 in cc) | inr a ↦ (let f = a.2 in cc) ]
    ]

-- no words give nothing more
no_words : (o v : Options) (parts : List (List Bytes)) → [] ≡ flat_map (λ p. p) parts → AddAll parts o v → v ≡ o
no_words o v [] e a = a
no_words o v (part ∷ parts) e a = absurd (elim a.1 [
  | inl p ↦ elim p.2.spelled [
    | inl s ↦ let e2 : [] ≡ setting_word p.0 ∷ p.2.digits ∷ flat_map (λ p. p) parts = e
        ∙ ap (λ (x : List Bytes). x ++ flat_map (λ p. p) parts) s in cc
    | inr s ↦ let e2 : [] ≡ (setting_word p.0 ++ 61 ∷ p.2.digits) ∷ flat_map (λ p. p) parts = e
        ∙ ap (λ (x : List Bytes). x ++ flat_map (λ p. p) parts) s in cc
  ]
  | inr p ↦ let e2 : [] ≡ switch_word p.0 ∷ flat_map (λ p. p) parts = e
      ∙ ap (λ (x : List Bytes). x ++ flat_map (λ p. p) parts) p.1.spelled in cc
])

pub gives_none : (words : List Bytes) (o v : Options) → words ≡ [] → Gives words o v → v ≡ o
gives_none words o v e g = no_words o v g.0 (sym e ∙ g.1) g.2

pub gives_self : (words : List Bytes) (o : Options) → words ≡ [] → Gives words o o
gives_self words o e = ([], e, refl)

pub on_err : {T E : Type 0} (r : Result T E) (P : Type 0) → P → OnErr r P
on_err (Ok x) P p = tt
on_err (Err e) P p = p

pub after_equal : (all ws : List Bytes) (o mid w v : Options) → w ≡ mid → Gives all o v ↔ Gives ws mid v → Gives all o v ↔ Gives ws w v
after_equal all ws o mid w v e g = subst (λ (x : Options). Gives all o v ↔ Gives ws x v) (sym e) g

-- the option whose word has these two letters behind the hyphens
abbrev option_of : ℕ → ℕ → Option Name
option_of a b =
    if a == 110 then Some (name.Setting Number)
    else if a == 108 then (if b == 101 then Some (name.Setting Ledgers) else Some (name.Setting Liars))
    else if a == 105 then (if b == 116 then Some (name.Setting Items) else Some (name.Setting Interval))
    else if a == 97 then (if b == 99 then Some (name.Setting Actors) else Some (name.Setting At))
    else if a == 112 then Some (name.Setting Pick)
    else if a == 113 then Some (name.Switch Quiet)
    else Some (name.Switch Dump)

abbrev option_at : Bytes → Option Name
option_at word = option_of (slice_index word 2) (slice_index word 3)

found_setting : (s : Setting) → option_at (setting_word s) ≡ Some (name.Setting s)
found_setting Number = refl
found_setting Ledgers = refl
found_setting Items = refl
found_setting Liars = refl
found_setting Actors = refl
found_setting Interval = refl
found_setting At = refl
found_setting Pick = refl

found_switch : (s : Switch) → option_at (switch_word s) ≡ Some (name.Switch s)
found_switch Quiet = refl
found_switch Dump = refl

found_name : (n : Name) → option_at (name_word n) ≡ Some n
found_name (name.Setting s) = found_setting s
found_name (name.Switch s) = found_switch s

only_setting : (s : Setting) → Only (setting_word s) (Some (name.Setting s))
only_setting s n e = sym (found_setting s) ∙ ap option_at e ∙ found_name n

-- a setting's number is the next word
pub awaited_step : (rest : List Bytes) (digits : Bytes) (o w v : Options) (s : Setting) (n : ℕ) → w ≡ with_number o s n
    → IsNumber digits most_number n → number_of o s ≡ None
    → Gives (setting_word s ∷ digits ∷ rest) o v ↔ Gives rest w v
awaited_step rest digits o w v s n e number new =
    after_equal (setting_word s ∷ digits ∷ rest) rest o (with_number o s n) w v e
    (apart_step (setting_word s ∷ digits ∷ rest) (digits ∷ rest) rest (setting_word s) (setting_word s) digits o v s n refl refl
    (cut_setting s) refl (only_setting s) number new)

pub awaited_wrong : (rest : List Bytes) (digits : Bytes) (o v : Options) (s : Setting)
    → ((n : ℕ) → IsNumber digits most_number n → number_of o s ≡ None → ⊥)
    → Gives (setting_word s ∷ digits ∷ rest) o v → ⊥
awaited_wrong rest digits o v s wrong g = apart_wrong (setting_word s ∷ digits ∷ rest) (digits ∷ rest) rest (setting_word s)
    (setting_word s) digits o v s refl refl (cut_setting s) (only_setting s) wrong g

pub awaited_alone : (o v : Options) (s : Setting) → Gives (setting_word s ∷ []) o v → ⊥
awaited_alone o v s g = apart_alone (setting_word s ∷ []) [] (setting_word s) (setting_word s) o v s refl refl (cut_setting s)
    (only_setting s) g

-- a setting's word stands there, and its number is awaited
pub same_word : (rest : List Bytes) (word nm : Bytes) (o v : Options) (s : Setting) → cut_of word ≡ (nm, None) → nm ≡ setting_word s
    → Gives (word ∷ rest) o v ↔ Gives (setting_word s ∷ rest) o v
same_word rest word nm o v s e named =
    let same : word ≡ setting_word s = cut_none word nm e ∙ named in
    subst (λ (x : Bytes). Gives (word ∷ rest) o v ↔ Gives (x ∷ rest) o v) same ((λ g. g), (λ g. g))

-- from options where the words w were read, the options o became n, and the number of `awaiting` is read next
abbrev pub Reads : Option Setting → Bytes → Options → Option Setting → Options → Type 0
Reads before w o awaiting n = (rest : List Bytes) (v : Options) → Gives (pending before (w ∷ rest)) o v ↔ Gives (pending awaiting rest) n v

abbrev pub Refuses : Option Setting → Bytes → Options → Type 0
Refuses before w o = (rest : List Bytes) (v : Options) → Gives (pending before (w ∷ rest)) o v → ⊥

-- what is behind a cut
pub no_digits : (x : Option (Bor Bytes)) → false ≡ is_some x → option_map (λ d. d.now) x ≡ None
no_digits None e = refl
no_digits (Some y) e = absurd cc

pub some_digits : (x : Option (Bor Bytes)) → true ≡ is_some x → (digits : Bytes) × (option_map (λ d. d.now) x ≡ Some digits)
some_digits None e = absurd cc
some_digits (Some y) e = (y.now, refl)

is_switch : (nm : Bytes) (option : Name) (s : Switch) → option ≡ name.Switch s → nm ≡ name_word option → nm ≡ switch_word s
is_switch nm option s e h = h ∙ ap name_word e

is_setting : (nm : Bytes) (option : Name) (s : Setting) → option ≡ name.Setting s → nm ≡ name_word option → nm ≡ setting_word s
is_setting nm option s e h = h ∙ ap name_word e

only_is : (nm : Bytes) (option other : Name) → option ≡ other → Only nm (Some option) → Only nm (Some other)
only_is nm option other e h = subst (λ (x : Name). Only nm (Some x)) e h

pub switch_reads : (w nm : Bytes) (x : Option Bytes) (o n : Options) (option : Name) (s : Switch) (awaiting : Option Setting)
    (r : Result (Unit {0}) Usage)
    → awaiting ≡ None → cut_of w ≡ (nm, x) → x ≡ None → option ≡ name.Switch s → nm ≡ name_word option → Only nm (Some option)
    → MatchResult r (λ _. (is_on o s ≡ false) × (n ≡ switched_on o s)) (λ _. is_on o s ≡ true)
    → OnOk r (Reads None w o awaiting n) × OnErr r (Refuses None w o)
switch_reads w nm x o n option s awaiting (Ok u) free e none is named only h =
    let e2 : cut_of w ≡ (nm, None) = e ∙ (λ i. (nm, none i)) in
    let step : Reads None w o None n = λ rest v. after_equal (w ∷ rest) rest o (switched_on o s) n v h.1
    (switch_step (w ∷ rest) rest w nm o v s refl e2 (is_switch nm option s is named) (only_is nm option (name.Switch s) is only) h.0) in
    (subst (λ (a : Option Setting). Reads None w o a n) (sym free) step, tt)
switch_reads w nm x o n option s awaiting (Err u) free e none is named only h =
    let e2 : cut_of w ≡ (nm, None) = e ∙ (λ i. (nm, none i)) in
    (tt, λ rest v g. switch_twice (w ∷ rest) rest w nm o v s refl e2 (only_is nm option (name.Switch s) is only) h g)

pub joined_reads : (w nm digits at : Bytes) (x : Option Bytes) (o n : Options) (option : Name) (s : Setting) (awaiting : Option Setting)
    (r : Result (Unit {0}) Usage)
    → awaiting ≡ None → cut_of w ≡ (nm, x) → x ≡ Some digits → at ≡ digits → option ≡ name.Setting s → nm ≡ name_word option
    → Only nm (Some option)
    → MatchResult r (λ _. (m : ℕ) × IsNumber at most_number m × (number_of o s ≡ None) × (n ≡ with_number o s m))
    (λ _. (m : ℕ) → IsNumber at most_number m → number_of o s ≡ None → ⊥)
    → OnOk r (Reads None w o awaiting n) × OnErr r (Refuses None w o)
joined_reads w nm digits at x o n option s awaiting (Ok u) free e some same is named only h =
    let e2 : cut_of w ≡ (nm, Some digits) = e ∙ (λ i. (nm, some i)) in
    let step : Reads None w o None n = λ rest v. after_equal (w ∷ rest) rest o (with_number o s h.0) n v h.3
    (joined_step (w ∷ rest) rest w nm digits o v s h.0 refl e2 (is_setting nm option s is named)
    (only_is nm option (name.Setting s) is only) (subst (λ (d : Bytes). IsNumber d most_number h.0) same h.1) h.2) in
    (subst (λ (a : Option Setting). Reads None w o a n) (sym free) step, tt)
joined_reads w nm digits at x o n option s awaiting (Err u) free e some same is named only h =
    let e2 : cut_of w ≡ (nm, Some digits) = e ∙ (λ i. (nm, some i)) in (
      tt,
      λ rest v g. joined_wrong (w ∷ rest) rest w nm digits o v s refl e2 (only_is nm option (name.Setting s) is only)
          (λ m is_number. h m (subst (λ (d : Bytes). IsNumber d most_number m) (sym same) is_number)) g,
    )

pub switch_refuses : (w nm : Bytes) (x : Option Bytes) (o : Options) (option : Name) (s : Switch)
    → cut_of w ≡ (nm, x) → ((digits : Bytes) × (x ≡ Some digits)) → option ≡ name.Switch s → Only nm (Some option) → Refuses None w o
switch_refuses w nm x o option s e some is only rest v g =
    switch_numbered (w ∷ rest) rest w nm some.0 o v s refl (e ∙ (λ i. (nm, some.1 i))) (only_is nm option (name.Switch s) is only) g

pub setting_reads : (w nm : Bytes) (x : Option Bytes) (o : Options) (option : Name) (s : Setting)
    → cut_of w ≡ (nm, x) → x ≡ None → option ≡ name.Setting s → nm ≡ name_word option → Reads None w o (Some s) o
setting_reads w nm x o option s e none is named rest v = same_word rest w nm o v s (e ∙ (λ i. (nm, none i)))
    (is_setting nm option s is named)

pub none_refuses : (w nm : Bytes) (x : Option Bytes) (o : Options) → cut_of w ≡ (nm, x) → ((n : Name) → nm ≡ name_word n → ⊥)
    → Refuses None w o
none_refuses w nm x o e none rest v g = none_found (w ∷ rest) rest w nm x o v refl e (λ n named. absurd (none n named)) g

-- a word that is the number of the setting that awaits it
pub awaited_reads : (w at : Bytes) (o n : Options) (s : Setting) (before : Option Setting) (r : Result (Unit {0}) Usage) → before ≡ Some s
    → at ≡ w
    → MatchResult r (λ _. (m : ℕ) × IsNumber at most_number m × (number_of o s ≡ None) × (n ≡ with_number o s m))
    (λ _. (m : ℕ) → IsNumber at most_number m → number_of o s ≡ None → ⊥)
    → OnOk r (Reads before w o None n) × OnErr r (Refuses before w o)
awaited_reads w at o n s before (Ok u) is same h =
    let step : Reads (Some s) w o None n = λ rest v. awaited_step rest w o n v s h.0 h.3
    (subst (λ (d : Bytes). IsNumber d most_number h.0) same h.1) h.2 in
    (subst (λ (b : Option Setting). Reads b w o None n) (sym is) step, tt)
awaited_reads w at o n s before (Err u) is same h =
    let none : Refuses (Some s) w o = λ rest v g. awaited_wrong rest w o v s
    (λ m is_number. h m (subst (λ (d : Bytes). IsNumber d most_number m) (sym same) is_number)) g in
    (tt, subst (λ (b : Option Setting). Refuses b w o) (sym is) none)

pub free_reads : (w : Bytes) (o n : Options) (before awaiting : Option Setting) (r : Result (Unit {0}) Usage) → before ≡ None
    → OnOk r (Reads None w o awaiting n) → OnErr r (Refuses None w o) → OnOk r (Reads before w o awaiting n) × OnErr r (Refuses before w o)
free_reads w o n before awaiting (Ok u) is a b = (subst (λ (x : Option Setting). Reads x w o awaiting n) (sym is) a, tt)
free_reads w o n before awaiting (Err u) is a b = (tt, subst (λ (x : Option Setting). Refuses x w o) (sym is) b)

-- what the words so far gave: the options o, and the number of `awaiting` is read next
pub record SoFar (words : List (Bor Bytes)) (i : ℕ) (o : Options) (awaiting : Option Setting) : Type 0 where
  pub same : (v : Options) → Gives (texts words) no_options v ↔ Gives (pending awaiting (texts (drop i words))) o v

pub so_far_start : (words : List (Bor Bytes)) (o : Options) → o ≡ no_options → SoFar words 0 o None
so_far_start words o e = record {
  same = λ v. subst (λ (x : Options). Gives (texts words) no_options v ↔ Gives (texts words) x v) (sym e)
      ((λ g. g), (λ g. g));
}

next_word : (words : List (Bor Bytes)) (i : ℕ) (d : Bor Bytes) → i < length words → drop i words ≡ get_or words i d ∷ drop (i + 1) words
next_word words i d lt = rw add-one (drop-cons words i d lt)

pub so_far_more : (words : List (Bor Bytes)) (i : ℕ) (d : Bor Bytes) (o n : Options) (before awaiting : Option Setting) → i < length words
    → Reads before (get_or words i d).now o awaiting n → SoFar words i o before → SoFar words (i + 1) n awaiting
so_far_more words i d o n before awaiting lt reads s = let w = get_or words i d in let e = next_word words i d lt in record {
  same = λ v.
      let r = reads (texts (drop (i + 1) words)) v in
      let s2 = s.same v in
      let eq : texts (drop i words) ≡ w.now ∷ texts (drop (i + 1) words) = ap texts e in (
        (λ g. r.0 (subst (λ (x : List Bytes). Gives (pending before x) o v) eq (s2.0 g))),
        (λ g. s2.1 (subst (λ (x : List Bytes). Gives (pending before x) o v) (sym eq) (r.1 g))),
      );
}

pub so_far_none : (words : List (Bor Bytes)) (i : ℕ) (d : Bor Bytes) (o : Options) (before : Option Setting) → i < length words
    → Refuses before (get_or words i d).now o → SoFar words i o before → (v : Options) → Gives (texts words) no_options v → ⊥
so_far_none words i d o before lt refuses s v g =
    let e = next_word words i d lt in
    refuses (texts (drop (i + 1) words)) v (subst (λ (x : List Bytes). Gives (pending before x) o v) (ap texts e) ((s.same v).0 g))

pub so_far_awaiting : (words : List (Bor Bytes)) (i : ℕ) (o : Options) (awaiting : Option Setting) → drop i words ≡ []
    → true ≡ is_some awaiting
    → SoFar words i o awaiting → (v : Options) → Gives (texts words) no_options v → ⊥
so_far_awaiting words i o None e is s v g = cc
so_far_awaiting words i o (Some setting) e is s v g = awaited_alone o v setting
    (subst (λ (x : List Bytes). Gives (setting_word setting ∷ x) o v) (ap texts e) ((s.same v).0 g))

pub so_far_end : (words : List (Bor Bytes)) (i : ℕ) (o : Options) (awaiting : Option Setting) → drop i words ≡ []
    → false ≡ is_some awaiting
    → SoFar words i o awaiting → Gives (texts words) no_options o × ((v : Options) → Gives (texts words) no_options v → v ≡ o)
so_far_end words i o (Some setting) e is s = absurd cc
so_far_end words i o None e is s = (
  (s.same o).1 (gives_self (texts (drop i words)) o (ap texts e)),
  (λ v g. gives_none (texts (drop i words)) o v (ap texts e)
      ((s.same v).0 g)),
)
