-- for `order_and_cycles`: the order is full just where no cell lies on a cycle
pub mod Orders
-- for `what_runs_again`: paths lead to just the cells that run again
pub mod Reachability
