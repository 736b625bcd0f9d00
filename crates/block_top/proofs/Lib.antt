mod SetPlans
