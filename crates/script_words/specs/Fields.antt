-- The forms of a word: numbers, names and policies.
use Rattle.std.specs.Prelude.{◌+◌, ◌*◌, ◌-◌, ◌^◌, ◌∷◌, ◌&&◌, ◌||◌, if◌then◌else◌}
use Rattle.std.specs.Prelude.{ℕ, Bool, true, false, List, [], length, Option, Some, None, nat_lt, bytes_eq, codes}
use Rattle.std.specs.Char.{is_ascii_digit, is_ascii_lowercase}
use Rattle.std.specs.Option.{option_map}
use Rattle.flow_terms.specs.declared.policy.Policy.{Policy}
use Rattle.flow_terms.specs.declared.policy.Policy.TheVariants.{Suspend, DropOldest, DropLatest}

-- what decimal digits say, read on from a number; nothing where one of them is no digit
abbrev pub digits_from : ℕ → List ℕ → Option ℕ
digits_from number [] = Some number
digits_from number (digit ∷ digits) =
    if is_ascii_digit digit then digits_from (number * 10 + (digit - 48)) digits else None

-- a number is below 2^64
abbrev pub below_limit : Option ℕ → Option ℕ
below_limit None = None
below_limit (Some number) = if nat_lt number (2 ^ 64) then Some number else None

-- one to twenty digits of a number below 2^64
abbrev pub number_of : List ℕ → Option ℕ
number_of [] = None
number_of (digit ∷ digits) =
    if nat_lt (length digits) 20 then below_limit (digits_from 0 (digit ∷ digits)) else None

abbrev pub is_name_byte : ℕ → Bool
is_name_byte byte = is_ascii_lowercase byte || is_ascii_digit byte

abbrev pub are_name_bytes : List ℕ → Bool
are_name_bytes [] = true
are_name_bytes (byte ∷ bytes) = is_name_byte byte && are_name_bytes bytes

-- a lower case letter and at most 15 lower case letters or digits
abbrev pub is_name : List ℕ → Bool
is_name [] = false
is_name (byte ∷ bytes) = is_ascii_lowercase byte && (nat_lt (length bytes) 16 && are_name_bytes bytes)

abbrev pub policy_of : List ℕ → Option Policy
policy_of word =
    if bytes_eq word (codes "suspend") then Some Suspend
    else (if bytes_eq word (codes "oldest") then Some DropOldest
    else (if bytes_eq word (codes "latest") then Some DropLatest
    else None))

-- a number, or nothing for `never`
abbrev pub expiry_of : List ℕ → Option (Option ℕ)
expiry_of word = if bytes_eq word (codes "never") then Some None else option_map (λ number. Some number) (number_of word)
