use Rattle.std.proofs.Common.{option_map}
use Rattle.serde_json.specs.View.{view}
use Rattle.luks_json.specs.Names.{numbers_of_array}
use Rattle.luks_json.proofs.NameLists.{is_read, of_array, some_of}
use Rattle.luks_json.proofs.name_list.numbers_in.Goals as goal

pub returns-in-Some-as_array-clause-is : goal.returns-in-Some-as_array-clause-is
returns-in-Some-as_array-clause-is c = rw c.in-Some.is (of_array (view c.in-Some.value.now) c.in-Some-as_array.items.now.items _ c.in-Some-as_array.ensures c.item_numbers.ensures)

pub returns-in-Some-as_array-clause-there : goal.returns-in-Some-as_array-clause-there
returns-in-Some-as_array-clause-there c = λ names.
    some_of (λ n. n.items) c.item_numbers.result (numbers_of_array (option_map (λ v. view v.now) c.args.value)) (rw c.in-Some.is (of_array (view c.in-Some.value.now) c.in-Some-as_array.items.now.items _ c.in-Some-as_array.ensures c.item_numbers.ensures)) (is_read (option_map (λ v. view v.now) c.args.value) names)
