-- How long texts are.
use Rattle.std.proofs.Common.{◌≡◌, ◌≤◌, ℕ, ◌*◌, Bool, true, false, List, [], ◌∷◌, length, arith, length-append}
use Rattle.std.specs.Prelude.{nat_le}
use Rattle.std.specs.List.{flat_map, list_all}
use Rattle.std.specs.Fmt.{decimal}
use Rattle.std.proofs.lemmas.Bool.{and_parts, leb-true}
use Rattle.tree_types.specs.declared.reply.Reply.TheVariants as reply
use Rattle.history_model.specs.ReplyText.{after_space, hex_text, read_text, names_text}
use Rattle.script_text.specs.ShortReplies.{is_short}

length-hex_text : (bytes : List ℕ) → length (hex_text bytes) ≡ 2 * length bytes
length-hex_text [] = search
length-hex_text (b ∷ bytes) = let rest = length-hex_text bytes in omega (arith, rest)

-- two digits a byte, or a dash
pub read_is_short : (bytes : List ℕ) → nat_le (length bytes) 4096 ≡ true → length (read_text bytes) ≤ 8192
read_is_short [] short = omega arith
read_is_short (b ∷ bytes) short =
    let digits = length-hex_text (b ∷ bytes) in
    let few = leb-true (length (b ∷ bytes)) 4096 short in
    omega (arith, digits, few)

-- a space and at most 255 bytes for each name
length-names : (names : List (List ℕ)) → list_all (λ name. nat_le (length name) 255) names ≡ true → length (flat_map after_space names) ≤ 256 * length names
length-names [] short = omega arith
length-names (name ∷ names) short =
    let both = and_parts (nat_le (length name) 255) (list_all (λ n. nat_le (length n) 255) names) short in
    let rest = length-names names both.1 in
    let first = leb-true (length name) 255 both.0 in
    let joined = length-append name (flat_map after_space names) in
    omega (arith, rest, first, joined)

-- how many names are told, whether more follow, and 16 names
pub names_are_short : (names : List (List ℕ)) (more : Bool) → length (32 ∷ decimal (length names)) ≤ 21 → is_short (reply.Names names more) ≡ true → length (names_text names more) ≤ 4122
names_are_short names more number short = joined more
  where
    both : (nat_le (length names) 16 ≡ true) × (list_all (λ name. nat_le (length name) 255) names ≡ true)
    both = and_parts (nat_le (length names) 16) (list_all (λ name. nat_le (length name) 255) names) short

    joined : (more : Bool) → length (names_text names more) ≤ 4122
    joined true =
        let few = leb-true (length names) 16 both.0 in
        let each = length-names names both.1 in
        let texts = length-append (decimal (length names)) (32 ∷ (109 ∷ (111 ∷ (114 ∷ (101 ∷ flat_map after_space names))))) in
        omega (arith, few, each, texts)
    joined false =
        let few = leb-true (length names) 16 both.0 in
        let each = length-names names both.1 in
        let texts = length-append (decimal (length names)) (32 ∷ (101 ∷ (110 ∷ (100 ∷ flat_map after_space names)))) in
        omega (arith, few, each, texts)
