use Rattle.std.specs.Prelude.{ℕ, ◌^◌, List, Option, Some, None, nat_lt, ◌&&◌, if◌then◌else◌, decimal}
use Rattle.std.specs.Str.{bytes_eq}
use Rattle.std.specs.Str.Parse.{digits_value}

-- the number whose spelling the bytes are, where it is below 2^64: what is read is spelled again and compared
unfoldable pub number_at : List ℕ → Option ℕ
number_at bytes =
    if bytes_eq (decimal (digits_value 10 bytes)) bytes && nat_lt (digits_value 10 bytes) (2 ^ 64)
    then Some (digits_value 10 bytes) else None
