-- What the store keeps, and what it answers to a call.
use Rattle.std.specs.Prelude.{ℕ, ◌-◌, ◌^◌, ◌==◌, nat_lt, ◌&&◌, ◌||◌, not, Bool, List, [], length, Option, Some, None, is_some, if◌then◌else◌}
use Rattle.std.specs.Ordering.{nat_cmp}
use Rattle.std.specs.BTreeMap.{insert_entry, is_at}
use Rattle.std.specs.Map.{lookup}
use Rattle.sfi_host.specs.Hosts.{Call, Replied, Yield, Exit, Answer}

-- ---- what is kept

-- keys and their values
pub record StoreState : Type 0 where
  pub values : List (ℕ × ℕ)

abbrev pub no_values : StoreState
no_values = record { values = [] }

-- the value of a key, if it has one
abbrev pub value_at : StoreState → ℕ → Option ℕ
value_at s key = lookup (is_at (nat_cmp key)) s.values

-- the store in which the key has this value
abbrev pub with_value : StoreState → ℕ → ℕ → StoreState
with_value s key value = record { values = insert_entry nat_cmp s.values key value }

-- how many keys there may be
abbrev pub most_keys : ℕ
most_keys = 64

-- the key has no value yet
abbrev pub is_new : StoreState → ℕ → Bool
is_new s key = not (is_some (value_at s key))

-- the key has a value, or there is room for it
abbrev pub may_put : StoreState → ℕ → Bool
may_put s key = nat_lt (length s.values) most_keys || is_some (value_at s key)

-- ---- what is answered

-- the caller goes on, with these a0 and a1; its data bytes stay
abbrev pub replied : Call → ℕ → ℕ → StoreState → Answer StoreState
replied c a0 a1 s =
    record { reply = record { way = Replied; a0 = a0; a1 = a1; bytes = c.bytes }; host = s }

-- a0 after a put, and after one of a new key to a full store
abbrev pub done : ℕ
done = 0

abbrev pub full : ℕ
full = 1

-- put: the key a0 gets the value a1; a0 says whether it has, or the store is full
abbrev pub put : StoreState → Call → Answer StoreState
put s c = if may_put s c.a0 then replied c done c.a1 (with_value s c.a0 c.a1)
    else replied c full c.a1 s

-- get: a0 becomes the value of the key a0, and a1 becomes 1; or both 0 where it has none
abbrev pub get_of : StoreState → Call → Option ℕ → Answer StoreState
get_of s c None = replied c 0 0 s
get_of s c (Some value) = replied c value 1 s

abbrev pub get : StoreState → Call → Answer StoreState
get s c = get_of s c (value_at s c.a0)

-- the answers to exit and yield: they change nothing
abbrev pub exits : StoreState → Call → Answer StoreState
exits s c =
    record { reply = record { way = Exit c.a0; a0 = c.a0; a1 = c.a1; bytes = c.bytes }; host = s }

abbrev pub yields : StoreState → Call → Answer StoreState
yields s c =
    record { reply = record { way = Yield; a0 = c.a0; a1 = c.a1; bytes = c.bytes }; host = s }

-- a0 after a call of a service that isn't there
abbrev pub failed : ℕ
failed = 2 ^ 32 - 1

-- the services, by the numbers that a gate asks with
abbrev pub exit_service : ℕ
exit_service = 0

abbrev pub put_service : ℕ
put_service = 1

abbrev pub get_service : ℕ
get_service = 2

abbrev pub yield_service : ℕ
yield_service = 3

-- what the store answers to each service
abbrev pub store : StoreState → Call → Answer StoreState
store s c =
    if c.service == exit_service then exits s c
    else if c.service == put_service then put s c
    else if c.service == get_service then get s c
    else if c.service == yield_service then yields s c
    else replied c failed c.a1 s

-- ---- want of memory: only of a put of a new key, where there is room for it

abbrev pub may_want : StoreState → Call → Bool
may_want s c = is_new s c.a0 && may_put s c.a0

abbrev pub store_may_refuse : StoreState → Call → Bool
store_may_refuse s c = (c.service == put_service) && may_want s c
