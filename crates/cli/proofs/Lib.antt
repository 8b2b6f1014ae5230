mod PlanLines
mod Judging
