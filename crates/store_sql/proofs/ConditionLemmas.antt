-- What a name, a parameter and two expressions around an operator stand for, wherever names are read.
use Rattle.std.proofs.Common.{◌≡◌, ℕ, suc, ◌-◌, [], true, false, None, Option, Ok, refl, nat_lt}
use Rattle.sqlite.specs.Term.{Term, col, op2}
use Rattle.sqlite_sql.specs.declared.ops.BinaryOp.TheVariants as by
use Rattle.sqlite_resolve.specs.Scope.{Name, column, Context}
use Rattle.sqlite_resolve.specs.Expr.{lower_to, node, opened, passes, operation, both, wanted_truth, tests_truth, tests_alias, combine}
use Rattle.sqlite_resolve.specs.Lowering.{spend, begin, finish, nothing, chosen}
use Rattle.sqlite_resolve.specs.declared.state.State.{State}
use Rattle.sqlite_resolve.specs.declared.state.Carried.{Carried}
use Rattle.sqlite_tied.specs.Compute.{everything}
use Rattle.sqlite_ast.specs.declared.Expr.{Expr, out-Expr, roll-Expr}
use Rattle.sqlite_ast.specs.declared.Expr.TheOpen.{Expr-F}
use Rattle.sqlite_ast.specs.declared.Binary.{Binary}
use Rattle.sqlite_ast.specs.declared.Binary.TheVariants as binary

unfoldable pub name_expr : Option Name → Name → Expr
name_expr table name = roll-Expr (Expr-F.Column table name)

unfoldable pub given_expr : ℕ → Expr
given_expr n = roll-Expr (Expr-F.Parameter n)

unfoldable pub binary_expr : Binary → Expr → Expr → Expr
binary_expr op a b = roll-Expr (Expr-F.Binary op a b)

-- `column op ?n`
abbrev pub compare_expr : Binary → Option Name → Name → ℕ → Expr
compare_expr op table name n = binary_expr op (name_expr table name) (given_expr n)

abbrev pub and_expr : Expr → Expr → Expr
and_expr = binary_expr binary.And

out_name : (table : Option Name) (name : Name) → out-Expr (name_expr table name) ≡ Expr-F.Column table name
unfolding everything name_expr
out_name table name = refl

out_given : (n : ℕ) → out-Expr (given_expr n) ≡ Expr-F.Parameter n
unfolding everything given_expr
out_given n = refl

out_binary : (op : Binary) (a b : Expr) → out-Expr (binary_expr op a b) ≡ Expr-F.Binary op a b
unfolding everything binary_expr
out_binary op a b = refl

-- what is collected between two expressions, where no step and no aggregate is needed and this slot is the next
abbrev pub resting : ℕ → ℕ → Carried → State
resting next budget carried = record { next = next; steps = []; aggregates = []; budget = budget; written = None; last = carried }

module _ (cx : Context) (next : ℕ) where
  -- at this depth the expression stands for the term, and takes the budget down to this
  abbrev pub Lowers : ℕ → Expr → ℕ → Term → ℕ → Carried → Type 0
  Lowers d e before t after then = (carried : Carried) → lower_to d cx e (resting next before carried) ≡ Ok (t, resting next after then)

  -- a name stands for a column
  abbrev pub Names : Option Name → Name → Term → Carried → Type 0
  Names table name t carried = (s : State) → column cx table name s ≡ Ok (t, record s { last = carried })

  pub lower_name : (table : Option Name) (name : Name) (t : Term) (c : Carried) → Names table name t c → (d b : ℕ) → nat_lt 1 b ≡ true → Lowers (suc d) (name_expr table name) b t (b - 1) c
  unfolding lower_to node opened spend begin finish passes
  lower_name table name t c is d b rich carried = rw (rich, out_name table name, is (resting next (b - 1) nothing)) refl

  lower_given : (n d b : ℕ) → nat_lt 1 b ≡ true → Lowers (suc d) (given_expr n) b (col 0 (n - 1)) (b - 1) nothing
  unfolding lower_to node opened spend begin finish passes
  lower_given n d b rich carried = rw (rich, out_given n) refl

  -- the operator reads two values as they are
  pub record Combines (op : Binary) (s t r : Term) (p q : Carried) : Type 0 where
    pub no_truth : (y : Expr) → tests_truth op y ≡ false
    pub no_alias : (y : Expr) → tests_alias cx op y ≡ false
    pub no_word : (y : Expr) → wanted_truth cx op y ≡ None
    pub combines : (state : State) → combine cx op (chosen p q) s t state ≡ Ok (r, state)

  module _ (op : Binary) (x y : Expr) (s t r : Term) (p q : Carried) (h : Combines op s t r p q) (d b mid end : ℕ) (rich : nat_lt 1 b ≡ true) (one : Lowers d x (b - 1) s mid p) (two : Lowers d y mid t end q) where
    both_is : both (lower_to d) cx op x y (resting next (b - 1) nothing) ≡ Ok (r, resting next end q)
    unfolding both
    both_is = rw (h.no_truth y, h.no_alias y, one nothing, two p, h.combines (resting next end q)) refl

    pub lower_binary : Lowers (suc d) (binary_expr op x y) b r end nothing
    unfolding lower_to node opened spend begin finish passes operation
    lower_binary carried = rw (rich, out_binary op x y, h.no_word y, both_is) refl

  -- `column op ?n`
  pub lower_compare : (op : Binary) (table : Option Name) (name : Name) (t r : Term) (c : Carried) (n : ℕ) → Names table name t c → Combines op t (col 0 (n - 1)) r c nothing
      → (d b : ℕ) → nat_lt 1 b ≡ true → nat_lt 1 (b - 1) ≡ true → nat_lt 1 (b - 1 - 1) ≡ true → Lowers (suc (suc d)) (compare_expr op table name n) b r (b - 1 - 1 - 1) nothing
  lower_compare op table name t r c n is h d b first second third =
      lower_binary op (name_expr table name) (given_expr n) t (col 0 (n - 1)) r c nothing h (suc d) b (b - 1 - 1) (b - 1 - 1 - 1) first (lower_name table name t c is d (b - 1) second) (lower_given n d (b - 1 - 1) third)

  ands : (s t : Term) → Combines binary.And s t (op2 by.And s t) nothing nothing
  unfolding tests_truth tests_alias wanted_truth combine
  ands s t = record { no_truth = λ y. refl; no_alias = λ y. refl; no_word = λ y. refl; combines = λ state. refl }

  pub lower_and : (x y : Expr) (s t : Term) (d b mid end : ℕ) → nat_lt 1 b ≡ true → Lowers d x (b - 1) s mid nothing → Lowers d y mid t end nothing → Lowers (suc d) (and_expr x y) b (op2 by.And s t) end nothing
  lower_and x y s t = lower_binary binary.And x y s t (op2 by.And s t) nothing nothing (ands s t)
