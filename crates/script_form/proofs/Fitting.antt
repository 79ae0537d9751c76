-- Which records a store may begin with.
use Rattle.std.proofs.Common.{◌≡◌, ◌≢◌, ◌∙◌, inl, inr, ◌⊎◌, ◌+◌, ◌-◌, ◌&&◌, nat_eq, nat_le, List, length, take, drop}
use Rattle.std.proofs.Common.{Bool, true, false, Option, Some, None, Result, Ok, Err, IsTrue, refl, sym, ap}
use Rattle.std.specs.Prelude.{MatchBool, IfOk, is_some, if◌then◌else◌}
use Rattle.std.specs.Option.{option_map, option_or}
use Rattle.std.specs.List.{starts_with}
use Rattle.half_hash.specs.declared.bytes.Memory.{Memory}
use Rattle.ledger_spec.specs.declared.Kind.{Kind}
use Rattle.ledger_spec.specs.declared.Kind.TheVariants.{State, Tx, Set}
use Rattle.ledger_spec.specs.Bytes.{Bytes, Hash, Half, is_zero, is_nonzero}
use Rattle.ledger_spec.specs.Forms.{Held, inner, leaf, header, inner_of, header_of, leaf_prefix, data_limit}
use Rattle.ledger_spec.specs.Forms.{keyed_leaf_of, bare_leaf_of, leaf_of}
use Rattle.ledger_spec.specs.Findings.{held_of}
use Rattle.ledger_machine.specs.declared.commands.Record.{Record}
use Rattle.shamap_node.specs.Laws.{is_no_node, HeldByForm}
use Rattle.script_form.specs.Records.{IsForm, IsFit, IsUnfit}

-- a leaf is no header
leaf_no_header : (t : Bool) (kind : Kind) (key value bytes : Bytes)
    → (if t then Some (leaf kind key value) else None) ≡ Some (header bytes) → ⊥
leaf_no_header true kind key value bytes e = cc
leaf_no_header false kind key value bytes e = cc

keyed_no_header : (kind : Kind) (form bytes : Bytes) → keyed_leaf_of kind form ≡ Some (header bytes) → ⊥
unfolding keyed_leaf_of
keyed_no_header kind form bytes e =
    leaf_no_header
    (starts_with nat_eq form (leaf_prefix kind) && nat_le 36 (length form) && nat_le (length form) (36 + data_limit)
    && is_nonzero (drop (length form - 32) form))
    kind (drop (length form - 32) form) (drop 4 (take (length form - 32) form)) bytes e

bare_no_header : (half : Half) (form bytes : Bytes) → bare_leaf_of half form ≡ Some (header bytes) → ⊥
unfolding bare_leaf_of
bare_no_header half form bytes e =
    leaf_no_header (starts_with nat_eq form (leaf_prefix Set) && nat_le (length form) (4 + data_limit) && is_nonzero (half form)) Set
    (half form) (drop 4 form) bytes e

first_or : (a b : Option Held) (n : Held) → option_or a b ≡ Some n → (a ≡ Some n) ⊎ (b ≡ Some n)
first_or (Some x) b n e = inl e
first_or None b n e = inr e

no_inner_header : (o : Option (List Hash)) (bytes : Bytes) → option_map inner o ≡ Some (header bytes) → ⊥
no_inner_header None bytes e = cc
no_inner_header (Some x) bytes e = cc

none_header : (o : Option Bytes) (bytes : Bytes) → o ≡ None → option_map header o ≡ Some (header bytes) → ⊥
none_header None bytes none e = cc
none_header (Some x) bytes none e = cc

no_header : (half : Half) (form bytes : Bytes) → header_of form ≡ None → held_of half form ≡ Some (header bytes) → ⊥
no_header half form bytes none e =
    elim (first_or (option_map inner (inner_of form)) _ (header bytes) e) [
      | inl a ↦ no_inner_header (inner_of form) bytes a
      | inr b ↦ elim (first_or (option_map header (header_of form)) _ (header bytes) b) [
        | inl a ↦ none_header (header_of form) bytes none a
        | inr b ↦ elim (first_or (keyed_leaf_of State form) _ (header bytes) b) [
          | inl a ↦ keyed_no_header State form bytes a
          | inr b ↦ elim (first_or (keyed_leaf_of Tx form) _ (header bytes) b) [
            | inl a ↦ keyed_no_header Tx form bytes a
            | inr b ↦ bare_no_header half form bytes b
          ]
        ]
      ]
    ]

module _ (half : Half) (law : HeldByForm) (sized : (x : Bytes) → length (half x) ≡ 32) (form : Bytes) where
  -- what a header's form holds, or an inner node's where it is that too
  held_there : (a : Option (List Hash)) (b : Option Bytes) (bytes : Bytes) → b ≡ Some bytes
      → (n : Held) × (option_or (option_map inner a) (option_or (option_map header b) (leaf_of half form)) ≡ Some n)
  held_there (Some x) b bytes is = (inner x, refl)
  held_there None b bytes is = (header bytes, ap (λ (o : Option Bytes). option_or (option_map header o) (leaf_of half form)) is)

  -- a header was read
  pub header_is_form : {X : Type 0} (r : Option X) (f : X → Bytes) → is_some r ≡ true → option_map f r ≡ header_of form → IsForm half form
  header_is_form None f some reads = absurd (cc)
  header_is_form (Some x) f some reads =
      let there = held_there (inner_of form) (header_of form) (f x) (sym reads) in
      (there.0, (law half sized there.0 form).1 there.1)

  -- no header and no node was read
  pub no_form : {X : Type 0} (r : Option X) (f : X → Bytes) → is_some r ≡ false → option_map f r ≡ header_of form
      → IsTrue (is_no_node (held_of half form)) → IsForm half form → ⊥
  no_form (Some x) f none reads other is = absurd (cc)
  no_form None f none reads other is = at is.0 (sym (ap is_no_node held) ∙ other) held
    where
      held : held_of half form ≡ Some is.0
      held = (law half sized is.0 form).0 is.1

      at : (n : Held) → is_no_node (Some n) ≡ true → held_of half form ≡ Some n → ⊥
      at (inner hashes) e h = cc
      at (leaf kind key bytes) e h = cc
      at (header bytes) e h = no_header half form bytes (sym reads) h

pub not_zero : (h : Hash) → is_zero h ≡ false → IsTrue (is_nonzero h)
not_zero h e = rw e refl

pub is_own : (h found of_form : Hash) (same : Bool) → same ≡ true → MatchBool same (h ≡ found) (h ≢ found) → found ≡ of_form → h ≡ of_form
is_own h found of_form true e is own = is ∙ own
is_own h found of_form false e is own = cc

-- a record of its own hash is fit where its form is one
pub fits : (half : Half) (r : Record) (found : Result Bool Memory) → r.hash ≡ half r.form → IsTrue (is_nonzero r.hash)
    → IfOk found (λ b. MatchBool b (IsForm half r.form) (IsForm half r.form → ⊥))
    → IfOk found (λ b. MatchBool b (IsFit half r) (IsUnfit half r))
fits half r (Ok true) own nonzero is = record { own = own; nonzero = nonzero; held = is }
fits half r (Ok false) own nonzero is = inl is
fits half r (Err e) own nonzero is = tt
