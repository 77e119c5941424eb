-- Which lists of buckets are no placement tree, and why.
use Rattle.std.specs.Prelude.{ℕ, zero, suc, ℤ, pos, ◌-◌, ◌^◌, List, length, map, sum, count_by, Bool, false, not, ◌||◌, nat_eq, nat_lt, nat_le, int_le, Option, Some, None, is_some, if◌then◌else◌}
use Rattle.std.specs.List.{list_any, filter, flat_map}
use Rattle.std.specs.Option.{option_map_or}
use Rattle.std.specs.Ordering.{int_eq}
use Rattle.pgp_lists.specs.Repeats.{has_repeat}
use Rattle.pgp_crush.specs.declared.fault.TreeFault.{TreeFault}
use Rattle.pgp_crush.specs.declared.fault.TreeFault.TheVariants.{NoRoot, TwiceHeld, WrongType, Unknown, TooDeep, TooMany, WeightSum, Memory}
use Rattle.pgp_crush.specs.Bucket.{Bucket, bucket_at, is_device, is_held}
use Rattle.pgp_crush.specs.Descent.{level_limit}

-- the items of all buckets
abbrev pub items_of : List Bucket → List ℤ
items_of tree = flat_map (λ b. b.items) tree

-- not exactly one bucket of the list is an item of none; one that none holds and is twice in the list makes two
abbrev pub has_no_root : List Bucket → Bool
has_no_root tree = not (nat_eq (count_by (λ b. not (is_held tree b.id)) tree) 1)

-- a bucket's id is twice in the list, or an item in two places
abbrev pub has_twice_held : List Bucket → Bool
has_twice_held tree = has_repeat int_eq (map (λ b. b.id) tree) || has_repeat int_eq (items_of tree)

-- the item is a bucket of this type or of one above it
abbrev pub reaches_kind : List Bucket → ℕ → ℤ → Bool
reaches_kind tree kind item = option_map_or (λ b. nat_le kind b.kind) (bucket_at tree item) false

-- a bucket's type is 0, or not above that of each bucket in it
abbrev pub has_wrong_type : List Bucket → Bool
has_wrong_type tree = list_any (λ b. nat_eq b.kind 0 || list_any (reaches_kind tree b.kind) b.items) tree

-- the item is a bucket of the list, or a device of a number up to 4095
abbrev pub is_known : List Bucket → ℤ → Bool
is_known tree item = if is_device item then int_le item (pos 4095) else is_some (bucket_at tree item)

abbrev pub has_unknown : List Bucket → Bool
has_unknown tree = list_any (λ item. not (is_known tree item)) (items_of tree)

-- the buckets above which at least this many levels of buckets stand
unfoldable pub below_levels : List Bucket → ℕ → List Bucket
below_levels tree zero = tree
below_levels tree (suc levels) = filter (λ b. is_held (below_levels tree levels) b.id) tree

abbrev pub is_too_deep : List Bucket → Bool
is_too_deep tree = nat_lt 0 (length (below_levels tree level_limit))

-- more than 1024 buckets, or more than 256 items in one
abbrev pub has_too_many : List Bucket → Bool
has_too_many tree = nat_lt 1024 (length tree) || list_any (λ b. nat_lt 256 (length b.items)) tree

-- a bucket's weights make more than a word
abbrev pub has_too_much_weight : List Bucket → Bool
has_too_much_weight tree = list_any (λ b. nat_lt (2 ^ 32 - 1) (sum b.weights)) tree

-- the first fault of a list with one root, in this order
unfoldable pub fault_below_root : List Bucket → Option TreeFault
fault_below_root tree =
    if has_twice_held tree then Some TwiceHeld
    else (if has_wrong_type tree then Some WrongType
    else (if has_unknown tree then Some Unknown
    else (if is_too_deep tree then Some TooDeep
    else (if has_too_many tree then Some TooMany
    else (if has_too_much_weight tree then Some WeightSum else None)))))

-- the first fault
unfoldable pub tree_fault : List Bucket → Option TreeFault
tree_fault tree = if has_no_root tree then Some NoRoot else fault_below_root tree

-- the number of a fault of the map that holds the tree
abbrev pub tree_refusal_number : TreeFault → ℕ
tree_refusal_number Memory = 51
tree_refusal_number _ = 21

-- the number of the fault among those of a tree
abbrev pub tree_fault_number : TreeFault → Option ℕ
tree_fault_number NoRoot = Some 1
tree_fault_number TwiceHeld = Some 2
tree_fault_number WrongType = Some 3
tree_fault_number Unknown = Some 4
tree_fault_number TooDeep = Some 5
tree_fault_number TooMany = Some 6
tree_fault_number WeightSum = Some 7
tree_fault_number Memory = None

-- looking at the list may take memory: a bucket has an item, or the list has one root. What holds nothing and has not one root
-- is refused without.
abbrev pub may_lack_memory : List Bucket → Bool
may_lack_memory tree = nat_lt 0 (length (items_of tree)) || not (has_no_root tree)
